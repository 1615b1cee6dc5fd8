use Rattle.ray_rows.proofs.ParallelRows.{parallel_rows_back}
use Rattle.ray_rows.proofs.parallel_rows_step_back.Goals as goal

pub returns : goal.returns
returns c = parallel_rows_back
