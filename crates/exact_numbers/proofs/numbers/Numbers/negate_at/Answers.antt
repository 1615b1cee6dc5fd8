use Rattle.exact_numbers.proofs.ById.{mapped-negated}
use Rattle.exact_numbers.proofs.numbers.Numbers.negate_at.Goals as goal

pub returns-clause-value : goal.returns-clause-value
returns-clause-value g c = mapped-negated g.T.Exact.number _ _ c.args.index c.index_mut.result.now c.negate.new.self c.self.view_is c.requires c.index_mut.ensures.value c.negate.ensures.value
