use Rattle.std.proofs.Common.{refl, drop}
use Rattle.txn_world.specs.Workers.{WorkerData}
use Rattle.txn_world.proofs.Placing.{changed_there}
use Rattle.txn_world.proofs.seats.drop_first.Goals as goal

pub returns : goal.returns
returns c = changed_there (λ (d : WorkerData). record d { pending = drop 1 d.pending }) (λ d. refl) c.args.workers.now.items c.args.workers.now.items c.args.number c.args.place
    c.index_mut-worker.result.now c.take_first.new.self (λ v. refl) c.requires c.index_mut-worker.ensures.value c.take_first.ensures
