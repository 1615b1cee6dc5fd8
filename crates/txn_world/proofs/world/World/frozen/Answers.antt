use Rattle.std.proofs.Common.{◌≡◌, List, None, sym, ap, ◌∙◌, subst}
use Rattle.std.specs.Option.{option_copied}
use Rattle.txn_world.specs.Workers.{WorkerData, WorldData, worker_in, IsAbsent, IsAt}
use Rattle.txn_world.proofs.Placing.{worker_absent, worker_read}
use Rattle.txn_world.proofs.world.World.frozen.Goals as goal

pub returns-in-None : goal.returns-in-None
returns-in-None c =
    subst (λ (d : WorldData). None ≡ (worker_in d.workers c.args.worker).frozen) c.self.view_is
    (sym (ap (λ (d : WorkerData). d.frozen) (worker_absent c.self.inside.workers.items c.args.worker (subst (λ (ds : List WorkerData). IsAbsent ds c.args.worker) c.as_slice.ensures.value c.in-None.ensures))))

pub returns-in-Some : goal.returns-in-Some
returns-in-Some c =
    let there = subst (λ (ds : List WorkerData). IsAt ds c.args.worker c.in-Some.place) c.as_slice.ensures.value c.in-Some.ensures in
    subst (λ (d : WorldData). option_copied c.frozen.result ≡ (worker_in d.workers c.args.worker).frozen) c.self.view_is
    (c.frozen.ensures ∙ sym (ap (λ (d : WorkerData). d.frozen) (worker_read c.self.inside.workers.items c.args.worker c.in-Some.place c.index.result.now there c.index.ensures)))
