use Rattle.std.proofs.Common.{below_more}
use Rattle.lp_check.proofs.ColumnReads.{column_keeps}
use Rattle.lp_check.proofs.columns.failing_column.Goals as goal

pub loop-j-preserved : goal.loop-j-preserved
loop-j-preserved g c = below_more _ _ c.loop-j.invariant (column_keeps g.T.Exact.number g.T.Exact.room c.args.program.now c.args.point.now c.columns-columns.result.now c.loop-j.j c.index-columns-j.result c.index-point-j.result
    c.columns-columns.ensures c.loop-j-test.true c.requires.long c.index-columns-j.is c.index-point-j.is c.in_default.ensures)
