use Rattle.record_round_trip.proofs.Round.{sound_first, same_first, sound_again, same_again}
use Rattle.record_round_trip.proofs.written_records_are_read_again.Goals as goal

pub returns : goal.returns
returns c = record { sound = sound_again; same = same_again; sound_first = sound_first; same_first = same_first }
