use Rattle.lp_model.specs.Meaning.{meaning}
use Rattle.lp_rays.proofs.Weighing.{ray_no_point}
use Rattle.ray_check.proofs.OneVerdict.{yes_is_ray}
use Rattle.ray_check.proofs.laws.yes_lets_no_point_through.Goals as goal

pub returns : goal.returns
returns c = λ d w yes. ray_no_point (meaning d) w (yes_is_ray d w yes)
