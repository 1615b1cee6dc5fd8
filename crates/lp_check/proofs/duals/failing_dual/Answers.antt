use Rattle.std.proofs.Common.{below_more}
use Rattle.lp_check.specs.DecidingPairs.{DualPasses, DecidesPairIn}
use Rattle.lp_check.specs.Numbered.{numbered_pair}
use Rattle.lp_check.proofs.DualReads.{dual_read}
use Rattle.lp_check.proofs.Matches.{some_of, none_of}
use Rattle.lp_check.proofs.duals.failing_dual.Goals as goal

pub returns-in-Some : goal.returns-in-Some
returns-in-Some g c = λ x sums earlier. dual_read g.T.Exact.number g.T.Exact.room c.args.program.now x c.args.duals.now c.rows-rows.result.now c.args.sums.now c.loop-i.i c.index-rows-i.result c.index-duals-i.result c.index-sums-i.result
    (λ M z y. DecidesPairIn g.T.Exact.room c.args.program.now.sense M z y (numbered_pair g.T.Exact.number c.in-Some.verdict))
    c.rows-rows.ensures c.loop-i-test.true c.requires.each c.index-rows-i.is c.index-duals-i.is sums earlier (c.loop-i.invariant x sums earlier)
    (rw (← c.sense-sense.ensures) (λ M z y l lower upper dual sum before passed. some_of _ _ c.in-Some.is
    (c.in_ok-verdict.ensures M z y l lower upper dual sum before passed)))

pub loop-i-preserved : goal.loop-i-preserved
loop-i-preserved g c = λ x sums earlier. below_more _ _ (c.loop-i.invariant x sums earlier) (dual_read g.T.Exact.number g.T.Exact.room c.args.program.now x c.args.duals.now c.rows-rows.result.now c.args.sums.now c.loop-i.i c.index-rows-i.result c.index-duals-i.result c.index-sums-i.result
    (λ M z y. DualPasses c.args.program.now.sense M z y c.loop-i.i)
    c.rows-rows.ensures c.loop-i-test.true c.requires.each c.index-rows-i.is c.index-duals-i.is sums earlier (c.loop-i.invariant x sums earlier)
    (rw (← c.sense-sense.ensures) (λ M z y l lower upper dual sum before passed. none_of _ _ c.in_default.is
    (c.in_ok-verdict.ensures M z y l lower upper dual sum before passed))))
