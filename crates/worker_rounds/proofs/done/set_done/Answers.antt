use Rattle.worker_rounds.proofs.Flags.{sets_more, sets_none}
use Rattle.worker_rounds.proofs.done.set_done.Goals as goal

pub loop-number-init : goal.loop-number-init
loop-number-init c = sets_none c.args.flags.now

pub loop-number-preserved : goal.loop-number-preserved
loop-number-preserved c = sets_more c.args.done.now c.loop-number.number-index _ c.args.flags.now c.loop-number.flags c.loop-number-test.true c.loop-number.invariant c.set_flag.new.flags c.set_flag.ensures
