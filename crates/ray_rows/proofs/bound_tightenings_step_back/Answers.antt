use Rattle.ray_rows.proofs.BoundTightening.{lower_bound_back, upper_bound_back}
use Rattle.ray_rows.proofs.bound_tightenings_step_back.Goals as goal

pub returns-clause-lower : goal.returns-clause-lower
returns-clause-lower c = lower_bound_back

pub returns-clause-upper : goal.returns-clause-upper
returns-clause-upper c = upper_bound_back
