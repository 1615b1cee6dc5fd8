use Rattle.lp_rays.proofs.Weights.{vector_of-set}
use Rattle.lp_rays.proofs.ray.set_number.Goals as goal

pub returns-clause-value : goal.returns-clause-value
returns-clause-value c = vector_of-set c.args.numbers.now c.args.id c.args.number c.requires
