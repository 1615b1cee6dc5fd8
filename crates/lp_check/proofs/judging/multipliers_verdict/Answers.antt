use Rattle.lp_check.proofs.Matches.{some_of, none_of}
use Rattle.lp_check.proofs.judging.multipliers_verdict.Goals as goal

pub returns-in-Some : goal.returns-in-Some
returns-in-Some g c = some_of _ _ c.in-Some.is (c.in_ok-verdict.ensures _ c.requires.sums (c.requires.columns, c.requires.rows))

pub failing_reduced_cost-requires-clause-duals : goal.failing_reduced_cost-requires-clause-duals
failing_reduced_cost-requires-clause-duals g c = none_of _ _ c.in_default.is (c.in_ok-verdict.ensures _ c.requires.sums (c.requires.columns, c.requires.rows))

pub returns-in_ok-cost_verdict-in-None : goal.returns-in_ok-cost_verdict-in-None
returns-in_ok-cost_verdict-in-None g c = (c.in_ok-cost_verdict-in-None.ensures, λ _. (none_of _ _ c.in_default.is (c.in_ok-verdict.ensures _ c.requires.sums (c.requires.columns, c.requires.rows)), none_of _ _ c.in-None.is c.in_ok-verdict-2.ensures))
