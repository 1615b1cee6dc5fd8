use Rattle.lp_rays.proofs.Weighing.{ray_no_point}
use Rattle.lp_rays.proofs.laws.rays_let_no_point_through.Goals as goal

pub returns : goal.returns
returns c = ray_no_point
