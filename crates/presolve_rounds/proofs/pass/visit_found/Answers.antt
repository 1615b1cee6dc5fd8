use Rattle.std.proofs.Common.{take}
use Rattle.presolve_rounds.proofs.Running.{goes_on, none_passed, one_instance_more}
use Rattle.presolve_rounds.proofs.pass.visit_found.Goals as goal

pub loop-instance-init : goal.loop-instance-init
loop-instance-init c = none_passed c.args.walk.now.frozen.now.value c.args.watch.now c.args.book.now c.requires.going

pub visit-requires-clause-going : goal.visit-requires-clause-going
visit-requires-clause-going c = goes_on c.args.walk.now.frozen.now.value (take c.loop-instance.instance-index c.args.found.now) c.args.watch.now c.loop-instance.watch c.args.book.now c.loop-instance.book c.requires.going c.loop-instance.invariant

pub loop-instance-preserved : goal.loop-instance-preserved
loop-instance-preserved c =
    one_instance_more c.args.walk.now.frozen.now.value c.args.found.now c.loop-instance.instance-index _ c.args.watch.now c.loop-instance.watch c.visit.new.watch c.args.book.now c.loop-instance.book c.visit.new.book
    c.loop-instance-test.true c.loop-instance.invariant c.in_ok-visit.ensures.passed
