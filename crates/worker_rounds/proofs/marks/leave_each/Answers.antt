use Rattle.std.proofs.Common.{refl}
use Rattle.worker_rounds.proofs.Leaving.{leaves_more, leaves_none}
use Rattle.worker_rounds.proofs.marks.leave_each.Goals as goal

pub loop-instance-init : goal.loop-instance-init
loop-instance-init c = leaves_none c.args.watch.now

pub loop-instance-preserved : goal.loop-instance-preserved
loop-instance-preserved c = leaves_more c.args.found.now c.loop-instance.instance-index _ _ c.head.result c.args.watch.now c.loop-instance.watch c.leave.new.self c.loop-instance-test.true refl c.head.ensures c.loop-instance.invariant c.in_ok-leave.ensures
