use Rattle.presolve_model.proofs.Tabled.{rays_changed}
use Rattle.presolve_model.proofs.laws.reductions_take_rays_back.Goals as goal

pub returns : goal.returns
returns c = rays_changed
