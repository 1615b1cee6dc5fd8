use Rattle.std.proofs.Common.{false}
use Rattle.ray_step_laws.proofs.Records as steps
use Rattle.ray_step_laws.proofs.laws.column_singletons_are_weighed.Goals as goal

pub returns-clause-free : goal.returns-clause-free
returns-clause-free c = steps.free_column_singleton false false

pub returns-clause-kept : goal.returns-clause-kept
returns-clause-kept c = steps.slack_kept false false

pub returns-clause-dropped : goal.returns-clause-dropped
returns-clause-dropped c = steps.slack_dropped false false
