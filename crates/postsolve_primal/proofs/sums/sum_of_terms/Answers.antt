use Rattle.std.proofs.Common.{refl}
use Rattle.postsolve_primal.proofs.Summing.{summed_none, summed_more, summed_all}
use Rattle.postsolve_primal.proofs.sums.sum_of_terms.Goals as goal

pub loop-term-init : goal.loop-term-init
loop-term-init g c = summed_none _ _ _ _ c.zero-sum.ensures.value

pub loop-term-preserved : goal.loop-term-preserved
loop-term-preserved g c = summed_more _ _ _ _ _ _ _ c.loop-term-test.true c.term-item.is c.loop-term.invariant (c.in_ok-sum.ensures.fits refl) c.in_ok-sum.ensures.value

pub returns-clause-value : goal.returns-clause-value
returns-clause-value g c = (summed_all _ _ _ _ _ c.loop-term-test.false c.loop-term.invariant).0
