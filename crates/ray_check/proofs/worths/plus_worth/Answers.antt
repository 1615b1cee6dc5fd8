use Rattle.ray_check.proofs.Worthing.{nothing}
use Rattle.ray_check.proofs.worths.plus_worth.Goals as goal

pub returns-in-None-clause-value : goal.returns-in-None-clause-value
returns-in-None-clause-value c = nothing c.args.sum.now c.args.weight.now c.args.end.now c.in-None.ensures
