use Rattle.std.proofs.Common.{false}
use Rattle.ray_step_laws.proofs.Records as steps
use Rattle.ray_step_laws.proofs.laws.forcing_rows_are_weighed.Goals as goal

pub returns-clause-lower : goal.returns-clause-lower
returns-clause-lower c = steps.forcing_lower false false

pub returns-clause-upper : goal.returns-clause-upper
returns-clause-upper c = steps.forcing_upper false false
