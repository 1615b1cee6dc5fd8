use Rattle.std.proofs.Common.{false}
use Rattle.ray_step_laws.proofs.Records as steps
use Rattle.ray_step_laws.proofs.laws.parallel_columns_are_weighed.Goals as goal

pub returns : goal.returns
returns c = steps.parallel_columns false false
