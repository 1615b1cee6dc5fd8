use Rattle.ray_step_laws.proofs.Records as steps
use Rattle.ray_step_laws.proofs.laws.parallel_rows_are_weighed.Goals as goal

pub returns : goal.returns
returns c = steps.parallel_rows
