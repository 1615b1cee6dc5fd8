use Rattle.lp_columns.proofs.UnboundedColumn.{unbounded_column}
use Rattle.lp_columns.proofs.laws.unbounded_columns_leave_no_best_point.Goals as goal

pub returns : goal.returns
returns c = unbounded_column
