use Rattle.std.proofs.Common.{below_more}
use Rattle.lp_check.specs.declared.verdicts.Item.TheVariants.{Row}
use Rattle.lp_check.specs.Deciding.{PassesIn, DecidesIn}
use Rattle.lp_check.specs.Numbered.{numbered}
use Rattle.lp_check.proofs.Matches.{some_of, none_of}
use Rattle.lp_check.proofs.RowReads.{row_read}
use Rattle.lp_check.proofs.rows.failing_row.Goals as goal

pub returns-in-Some-clause-decides : goal.returns-in-Some-clause-decides
returns-in-Some-clause-decides g c = λ x sums columns. row_read g.T.Exact.number g.T.Exact.room c.args.program.now x c.rows-rows.result.now c.args.sums.now c.loop-i.i c.index-rows-i.result c.index-sums-i.result (λ M y. DecidesIn g.T.Exact.room M y (numbered g.T.Exact.number c.in-Some.verdict))
    c.rows-rows.ensures c.loop-i-test.true c.index-rows-i.is sums columns (c.loop-i.invariant x sums columns)
    (λ M y l lower upper sum earlier. some_of _ _ c.in-Some.is (c.in_ok-verdict.ensures.decides M y l lower upper sum earlier))

pub loop-i-preserved : goal.loop-i-preserved
loop-i-preserved g c = λ x sums columns. below_more _ _ (c.loop-i.invariant x sums columns) (row_read g.T.Exact.number g.T.Exact.room c.args.program.now x c.rows-rows.result.now c.args.sums.now c.loop-i.i c.index-rows-i.result c.index-sums-i.result (λ M y. PassesIn g.T.Exact.room M y (Row c.loop-i.i))
    c.rows-rows.ensures c.loop-i-test.true c.index-rows-i.is sums columns (c.loop-i.invariant x sums columns)
    (λ M y l lower upper sum earlier. none_of _ _ c.in_default.is (c.in_ok-verdict.ensures.decides M y l lower upper sum earlier)))
