use Rattle.program_laws.proofs.Placing.{placed_spread}
use Rattle.program_laws.proofs.laws.placed_points_are_spread.Goals as goal

pub returns : goal.returns
returns c = placed_spread
