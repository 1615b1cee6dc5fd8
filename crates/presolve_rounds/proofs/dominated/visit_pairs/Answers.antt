use Rattle.std.proofs.Common.{take}
use Rattle.presolve_rounds.proofs.Running.{goes_on, none_passed, one_instance_more}
use Rattle.presolve_rounds.proofs.dominated.visit_pairs.Goals as goal

pub loop-instance-init : goal.loop-instance-init
loop-instance-init c = (none_passed c.args.walk.now.frozen.now.value c.args.watch.now c.args.book.now c.requires.going, c.requires.kept)

pub visit_pair-requires-clause-going : goal.visit_pair-requires-clause-going
visit_pair-requires-clause-going c = goes_on c.args.walk.now.frozen.now.value (take c.loop-instance.instance-index c.args.found.now) c.args.watch.now c.loop-instance.watch c.args.book.now c.loop-instance.book c.requires.going c.loop-instance.invariant.0

pub loop-instance-preserved : goal.loop-instance-preserved
loop-instance-preserved c = (
  one_instance_more c.args.walk.now.frozen.now.value c.args.found.now c.loop-instance.instance-index _ c.args.watch.now c.loop-instance.watch c.visit_pair.new.watch c.args.book.now c.loop-instance.book c.visit_pair.new.book
      c.loop-instance-test.true c.loop-instance.invariant.0 c.in_ok-visit_pair.ensures.passed,
  c.in_ok-visit_pair.ensures.kept,
)
