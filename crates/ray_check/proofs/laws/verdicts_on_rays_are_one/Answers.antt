use Rattle.ray_check.proofs.OneVerdict.{verdict_same}
use Rattle.ray_check.proofs.laws.verdicts_on_rays_are_one.Goals as goal

pub returns : goal.returns
returns c = λ d w. verdict_same d w
