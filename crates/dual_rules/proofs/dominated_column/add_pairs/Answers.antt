use Rattle.dual_rules.specs.Pairs.{entries_of}
use Rattle.dual_rules.proofs.Pairs.{among_more}
use Rattle.dual_rules.proofs.dominated_column.add_pairs.Goals as goal

pub loop-column-preserved : goal.loop-column-preserved
loop-column-preserved c = among_more c.args.problem.now (entries_of c.args.columns.now) c.args.columns.now c.loop-column.column-index c.column-item.result c.loop-column.pairs.items c.add_pairs_of.new.pairs.items _
    c.loop-column-test.true c.column-item.is c.loop-column.invariant c.in_ok-add_pairs_of.ensures
