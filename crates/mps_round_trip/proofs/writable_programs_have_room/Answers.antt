use Rattle.mps_round_trip.proofs.Widths.{widths_fit}
use Rattle.mps_round_trip.proofs.writable_programs_have_room.Goals as goal

pub returns : goal.returns
returns c = widths_fit
