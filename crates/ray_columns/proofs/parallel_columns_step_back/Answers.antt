use Rattle.ray_columns.proofs.ParallelColumns.{parallel_columns_back}
use Rattle.ray_columns.proofs.parallel_columns_step_back.Goals as goal

pub returns : goal.returns
returns c = parallel_columns_back
