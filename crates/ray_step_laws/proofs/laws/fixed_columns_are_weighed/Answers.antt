use Rattle.std.proofs.Common.{false}
use Rattle.ray_step_laws.proofs.Records as steps
use Rattle.ray_step_laws.proofs.laws.fixed_columns_are_weighed.Goals as goal

pub returns : goal.returns
returns c = steps.fixed_column false false
