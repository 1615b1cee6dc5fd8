use Rattle.lp_columns.proofs.CrossedBounds.{crossed_column}
use Rattle.lp_columns.proofs.laws.crossed_bounds_let_no_point_through.Goals as goal

pub returns : goal.returns
returns c = crossed_column
