use Rattle.std.proofs.Common.{ap, ◌∙◌}
use Rattle.worker_rounds.specs.Workers.{WorkerData}
use Rattle.worker_rounds.proofs.Leaving.{found_more, found_none}
use Rattle.worker_rounds.proofs.marks.leave_found.Goals as goal

pub loop-worker-init : goal.loop-worker-init
loop-worker-init c = found_none c.args.watch.now

pub loop-worker-preserved : goal.loop-worker-preserved
loop-worker-preserved c = found_more c.args.workers.now c.loop-worker.worker-index _ c.found.result.now c.args.watch.now c.loop-worker.watch c.leave_each.new.watch c.loop-worker-test.true (c.found.ensures ∙ ap (λ (w : WorkerData). w.1.found) c.worker-item.is) c.loop-worker.invariant c.in_ok-leave_each.ensures
