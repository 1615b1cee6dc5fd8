use Rattle.mps_round_trip.proofs.Round.{same_programs}
use Rattle.mps_round_trip.proofs.texts_tell_programs_apart.Goals as goal

pub returns : goal.returns
returns c = same_programs
