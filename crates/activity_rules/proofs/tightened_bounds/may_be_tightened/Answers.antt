use Rattle.std.proofs.Common.{[], sym, ◌∙◌}
use Rattle.activity_rules.proofs.InfiniteEnds.{none_told}
use Rattle.activity_rules.proofs.Tightened.{none_at}
use Rattle.activity_rules.proofs.tightened_bounds.may_be_tightened.Goals as goal

pub returns-then-is_looked_at-clause-none : goal.returns-then-is_looked_at-clause-none
returns-then-is_looked_at-clause-none c = λ t. sym (none_told c.args.problem.now c.args.row [] (sym c.is_looked_at.ensures ∙ c.if-is_looked_at.true) c.is_sparse.ensures (sym c.may_tighten.ensures ∙ t))

pub returns-else-is_looked_at-clause-none : goal.returns-else-is_looked_at-clause-none
returns-else-is_looked_at-clause-none c = λ t. sym (none_at c.args.problem.now c.args.row [] (sym c.is_looked_at.ensures ∙ t))
