use Rattle.exact_numbers.proofs.ById.{mapped-set}
use Rattle.exact_numbers.proofs.numbers.Numbers.set.Goals as goal

pub returns-clause-value : goal.returns-clause-value
returns-clause-value g c = mapped-set g.T.Exact.number _ _ c.args.id c.args.number c.self.view_is c.requires
