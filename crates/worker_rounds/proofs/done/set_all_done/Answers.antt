use Rattle.std.proofs.Common.{refl, ap, ◌∙◌}
use Rattle.worker_rounds.specs.Workers.{WorkerData}
use Rattle.worker_rounds.proofs.Flags.{done_more}
use Rattle.worker_rounds.proofs.done.set_all_done.Goals as goal

pub loop-worker-init : goal.loop-worker-init
loop-worker-init c = record { long = refl; done = λ i s. absurd (c.requires i s) }

pub loop-worker-preserved : goal.loop-worker-preserved
loop-worker-preserved c = record {
  long = c.set_done.ensures.long ∙ c.loop-worker.invariant.long;
  done = done_more c.args.workers.now c.loop-worker.worker-index _ c.loop-worker.flags c.set_done.new.flags c.loop-worker-test.true c.loop-worker.invariant.done c.done.result.now (c.done.ensures ∙ ap (λ (w : WorkerData). w.1.done) c.worker-item.is) c.set_done.ensures;
}
