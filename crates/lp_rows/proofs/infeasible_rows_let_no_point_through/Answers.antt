use Rattle.lp_rows.proofs.InfeasibleRow.{above_upper_side, below_lower_side}
use Rattle.lp_rows.proofs.infeasible_rows_let_no_point_through.Goals as goal

pub returns-clause-above : goal.returns-clause-above
returns-clause-above c = above_upper_side

pub returns-clause-below : goal.returns-clause-below
returns-clause-below c = below_lower_side
