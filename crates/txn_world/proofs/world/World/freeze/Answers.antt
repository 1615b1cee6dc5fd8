use Rattle.std.proofs.Common.{None, subst}
use Rattle.presolve_model.specs.Worlds.{Freeze, Steps}
use Rattle.txn_world.specs.Workers.{WorldData, state_of}
use Rattle.txn_world.proofs.Stepping.{freeze_steps}
use Rattle.txn_world.proofs.world.World.freeze.Goals as goal

pub returns-clause-ok : goal.returns-clause-ok
returns-clause-ok c =
    subst (λ (d : WorldData). Steps (state_of d) (Freeze c.args.worker) None (state_of (record { book = c.self.inside.book; workers = c.keep_version.new.workers.items }))) c.self.view_is
    (freeze_steps c.self.inside.book c.self.inside.workers.items c.keep_version.new.workers.items c.args.worker c.in_ok-version.version c.in_ok-version.ensures c.in_ok-keep_version.ensures.ok)
