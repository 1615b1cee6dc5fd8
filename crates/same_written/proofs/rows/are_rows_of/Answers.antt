use Rattle.same_written.proofs.Behind.{joined, not_said, other_first, rest_says, rows_from}
use Rattle.same_written.proofs.rows.are_rows_of.Goals as goal

pub returns-in_default : goal.returns-in_default
returns-in_default c = not_said (λ e. other_first _ _ _ _ c.in_default.ensures.none
    (rows_from c.args.problem.now c.args.originals.now c.loop-i.i c.index-originals-i.result c.is_sparse.ensures c.requires c.loop-i-test.true c.index-originals-i.is)
    (c.loop-i.invariant.1 e))

pub loop-i-preserved : goal.loop-i-preserved
loop-i-preserved c = joined (rest_says _ _ _ _ _ c.in-Some.ensures.some
    (rows_from c.args.problem.now c.args.originals.now c.loop-i.i c.index-originals-i.result c.is_sparse.ensures c.requires c.loop-i-test.true c.index-originals-i.is))
    c.loop-i.invariant
