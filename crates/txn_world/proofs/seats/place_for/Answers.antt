use Rattle.std.proofs.Common.{[], ◌∷◌, ◌++◌, List, ap, ◌∙◌}
use Rattle.txn_world.specs.Workers.{WorkerData, worker_in}
use Rattle.txn_world.proofs.Placing.{same_pushed}
use Rattle.txn_world.proofs.seats.place_for.Goals as goal

pub returns-clause-same : goal.returns-clause-same
returns-clause-same c v =
    let ds = c.args.workers.now.items in
    ap (λ (es : List WorkerData). worker_in es v) (c.in_ok-push.ensures.items ∙ ap (λ (d : WorkerData). ds ++ d ∷ []) c.new.ensures)
    ∙ same_pushed ds c.args.number v
