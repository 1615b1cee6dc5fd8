use Rattle.ray_columns.proofs.DroppedColumn.{fixed_column_back}
use Rattle.ray_columns.proofs.fixed_columns_step_back.Goals as goal

pub returns : goal.returns
returns c = fixed_column_back
