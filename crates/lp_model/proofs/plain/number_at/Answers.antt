use Rattle.std.proofs.Common.{sym, ◌∙◌}
use Rattle.lp_model.proofs.Sums.{dense-here, dense-past}
use Rattle.lp_model.proofs.plain.number_at.Goals as goal

pub returns-then-term-id : goal.returns-then-term-id
returns-then-term-id c = sym (dense-here _ _ _ _ c.loop-term-test.true c.term-item.is c.if-term-id.true) ∙ c.loop-term.invariant

pub loop-term-preserved : goal.loop-term-preserved
loop-term-preserved c = dense-past _ _ _ _ c.loop-term-test.true c.term-item.is c.if-term-id.false ∙ c.loop-term.invariant
