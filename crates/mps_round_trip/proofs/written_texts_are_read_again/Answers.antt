use Rattle.mps_round_trip.proofs.Round.{no_fault, again}
use Rattle.mps_round_trip.proofs.written_texts_are_read_again.Goals as goal

pub returns : goal.returns
returns c = record { sound = no_fault; same = again }
