use Rattle.ray_rows.proofs.SingletonRow.{singleton_row_back}
use Rattle.ray_rows.proofs.singleton_rows_step_back.Goals as goal

pub returns : goal.returns
returns c = singleton_row_back
