use Rattle.std.proofs.Common.{Some, refl}
use Rattle.txn_world.specs.Workers.{WorkerData}
use Rattle.txn_world.proofs.Placing.{changed_there}
use Rattle.txn_world.proofs.seats.keep_version.Goals as goal

pub returns-clause-ok : goal.returns-clause-ok
returns-clause-ok c = changed_there (λ (d : WorkerData). record d { frozen = Some c.args.version }) (λ d. refl) c.args.workers.now.items c.place_for.new.workers.items c.args.number c.in_ok-place.place
    c.index_mut-worker.result.now c.freeze.new.self c.in_ok-place.ensures.same c.in_ok-place.ensures.place c.index_mut-worker.ensures.value c.freeze.ensures
