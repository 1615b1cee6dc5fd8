use Rattle.same_written.proofs.Behind.{columns_from, joined, not_said, other_first, rest_says}
use Rattle.same_written.proofs.columns.are_columns_of.Goals as goal

pub returns-in_default : goal.returns-in_default
returns-in_default c = not_said (λ e. other_first _ _ _ _ c.in_default.ensures.none
    (columns_from c.args.problem.now c.args.sense c.args.originals.now c.loop-j.j c.index-originals-j.result c.is_sparse.ensures c.requires.long c.loop-j-test.true c.index-originals-j.is)
    (c.loop-j.invariant.1 e))

pub loop-j-preserved : goal.loop-j-preserved
loop-j-preserved c = joined (rest_says _ _ _ _ _ c.in-Some.ensures.some
    (columns_from c.args.problem.now c.args.sense c.args.originals.now c.loop-j.j c.index-originals-j.result c.is_sparse.ensures c.requires.long c.loop-j-test.true c.index-originals-j.is))
    c.loop-j.invariant
