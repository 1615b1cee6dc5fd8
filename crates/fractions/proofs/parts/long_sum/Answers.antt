use Rattle.fractions.specs.Gcd.{gcd-IsGcd}
use Rattle.fractions.proofs.SumSteps.{sum_of_steps}
use Rattle.fractions.proofs.parts.long_sum.Goals as goal

pub over-requires-clause-divides : goal.over-requires-clause-divides
over-requires-clause-divides c = rw (c.gcd-again.ensures.value, c.size.ensures.value) (gcd-IsGcd _ _).0

pub returns-clause-lowest : goal.returns-clause-lowest
returns-clause-lowest c = (sum_of_steps _ _ _ _ _ _ _ _ _ _ _ _ _ _ c.requires.left c.requires.right c.gcd-common.ensures.value c.quotient-a_part.ensures c.quotient-b_part.ensures c.in_ok-left.ensures.1 c.in_ok-right.ensures.1 c.in_ok-sum.ensures.1 (rw (c.gcd-again.ensures.value, c.size.ensures.value)) c.quotient.ensures c.over.ensures.exact c.in_ok-den.ensures.1 c.over.ensures.in_range (rw c.in_ok-den.ensures.1 c.in_ok-den.ensures.0)).0

pub returns-clause-value : goal.returns-clause-value
returns-clause-value c = (sum_of_steps _ _ _ _ _ _ _ _ _ _ _ _ _ _ c.requires.left c.requires.right c.gcd-common.ensures.value c.quotient-a_part.ensures c.quotient-b_part.ensures c.in_ok-left.ensures.1 c.in_ok-right.ensures.1 c.in_ok-sum.ensures.1 (rw (c.gcd-again.ensures.value, c.size.ensures.value)) c.quotient.ensures c.over.ensures.exact c.in_ok-den.ensures.1 c.over.ensures.in_range (rw c.in_ok-den.ensures.1 c.in_ok-den.ensures.0)).1
