use Rattle.dual_rules.specs.Pairs.{entries_of}
use Rattle.dual_rules.proofs.Pairs.{at_once, beside_more}
use Rattle.dual_rules.proofs.dominated_column.add_pairs_of.Goals as goal

pub loop-other-preserved : goal.loop-other-preserved
loop-other-preserved c = beside_more c.args.problem.now c.args.better.now.entry.id c.args.others.now c.loop-other.other-index c.other-item.result c.loop-other.pairs.items c.add_pair.new.pairs.items _
    c.loop-other-test.true c.other-item.is c.loop-other.invariant c.in_ok-add_pair.ensures

pub returns-then-not-better : goal.returns-then-not-better
returns-then-not-better c = at_once c.args.problem.now c.args.better.now.entry.id (entries_of c.args.others.now) c.args.pairs.now.items c.args.better.now.endless c.requires.better.endless c.if-not-better.true
