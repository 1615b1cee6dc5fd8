use Rattle.std.proofs.Common.{false}
use Rattle.ray_step_laws.proofs.Records as steps
use Rattle.ray_step_laws.proofs.laws.deleted_rows_are_weighed.Goals as goal

pub returns-clause-empty : goal.returns-clause-empty
returns-clause-empty c = steps.empty_row false false

pub returns-clause-singleton : goal.returns-clause-singleton
returns-clause-singleton c = steps.singleton_row

pub returns-clause-redundant : goal.returns-clause-redundant
returns-clause-redundant c = steps.redundant_row false false
