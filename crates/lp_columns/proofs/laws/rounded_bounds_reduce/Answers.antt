use Rattle.lp_columns.proofs.RoundedBounds.{bounds_rounded_reduce}
use Rattle.lp_columns.proofs.laws.rounded_bounds_reduce.Goals as goal

pub returns : goal.returns
returns c = bounds_rounded_reduce
