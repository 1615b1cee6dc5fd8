use Rattle.std.proofs.Common.{false}
use Rattle.ray_step_laws.proofs.Records as steps
use Rattle.ray_step_laws.proofs.laws.placed_columns_are_weighed.Goals as goal

pub returns-clause-cost : goal.returns-clause-cost
returns-clause-cost c = steps.dual_fixing false false

pub returns-clause-dominated : goal.returns-clause-dominated
returns-clause-dominated c = steps.dominated false false

pub returns-clause-empty : goal.returns-clause-empty
returns-clause-empty c = steps.empty_column false false
