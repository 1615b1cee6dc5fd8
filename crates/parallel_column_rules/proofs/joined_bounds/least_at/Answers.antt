use Rattle.parallel_column_rules.proofs.Ends.{least_above, least_below}
use Rattle.parallel_column_rules.proofs.joined_bounds.least_at.Goals as goal

pub returns-then-is_positive : goal.returns-then-is_positive
returns-then-is_positive c = least_above c.args.factor.now c.args.first.now c.args.second.now c.is_positive.result c.requires c.is_positive.ensures c.if-is_positive.true

pub returns-else-is_positive : goal.returns-else-is_positive
returns-else-is_positive c = least_below c.args.factor.now c.args.first.now c.args.second.now c.is_positive.result c.requires c.is_positive.ensures c.if-is_positive.false
