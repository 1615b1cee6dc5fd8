use Rattle.ray_step_laws.proofs.Joining as steps
use Rattle.ray_step_laws.proofs.laws.lifts_of_rays_join.Goals as goal

pub returns-clause-none : goal.returns-clause-none
returns-clause-none c = steps.none

pub returns-clause-first : goal.returns-clause-first
returns-clause-first c = steps.first

pub returns-clause-step : goal.returns-clause-step
returns-clause-step c = steps.step
