use Rattle.std.proofs.Common.{◌∙◌}
use Rattle.aggregation_rules.proofs.Walk.{first_says, first_not}
use Rattle.aggregation_rules.proofs.new_entries.first_at.Goals as goal

pub returns-then-term-id : goal.returns-then-term-id
returns-then-term-id c = λ n a. first_says c.args.id c.term-item.result c.args.terms.now c.in-len1-up.len_at_least c.term-item.is c.if-term-id.true

pub returns-else-term-id : goal.returns-else-term-id
returns-else-term-id c = λ n a. c.zero-else-term-id.ensures.value ∙ first_not c.args.id c.term-item.result c.args.terms.now n c.in-len1-up.len_at_least c.term-item.is c.if-term-id.false a
