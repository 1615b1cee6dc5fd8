use Rattle.lp_rays.proofs.Moving.{ray_back, steps_join}
use Rattle.lp_rays.proofs.laws.rays_step_back.Goals as goal

pub returns-clause-ray : goal.returns-clause-ray
returns-clause-ray c = ray_back

pub returns-clause-join : goal.returns-clause-join
returns-clause-join c = steps_join
