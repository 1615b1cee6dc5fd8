use Rattle.threaded_passes.proofs.Sharing.{range_grown}
use Rattle.threaded_passes.proofs.shares.firsts_of.Goals as goal

pub loop-first-preserved : goal.loop-first-preserved
loop-first-preserved c = range_grown c.loop-first.first c.loop-first.firsts.items c.push.new.self.items c.loop-first.invariant c.in_ok-push.ensures.items
