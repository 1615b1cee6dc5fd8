use Rattle.lp_check.proofs.Matches.{some_of, none_of, if_some_of}
use Rattle.lp_check.proofs.judging.judge_pair.Goals as goal

pub returns-in-Some-2 : goal.returns-in-Some-2
returns-in-Some-2 g c = (some_of _ _ c.in-Some-2.is (c.in_ok-verdict-2.ensures.decides _ (rw c.as_slice.ensures.value c.in_ok-sums.ensures) (none_of _ _ c.in_default.is c.in_ok-verdict.ensures.decides)), λ h. absurd (if_some_of _ c.in-Some-2.is c.in_ok-verdict-2.ensures.early h))

pub multipliers_verdict-requires-clause-rows : goal.multipliers_verdict-requires-clause-rows
multipliers_verdict-requires-clause-rows g c = none_of _ _ c.in-None.is (c.in_ok-verdict-2.ensures.decides _ (rw c.as_slice.ensures.value c.in_ok-sums.ensures) (none_of _ _ c.in_default.is c.in_ok-verdict.ensures.decides))
