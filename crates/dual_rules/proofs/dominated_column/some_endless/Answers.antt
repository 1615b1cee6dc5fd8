use Rattle.std.proofs.Common.{◌∙◌, sym}
use Rattle.dual_rules.proofs.Pairs.{ended_more}
use Rattle.dual_rules.proofs.dominated_column.some_endless.Goals as goal

pub loop-term-preserved : goal.loop-term-preserved
loop-term-preserved c = λ h. c.loop-term.invariant (ended_more c.args.problem.now c.args.terms.now c.loop-term.term-index c.term-item.result c.loop-term-test.true c.term-item.is (sym c.is_endless.ensures ∙ c.if-is_endless.false) h)
