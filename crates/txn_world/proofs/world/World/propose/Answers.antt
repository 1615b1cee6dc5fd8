use Rattle.std.proofs.Common.{None, subst}
use Rattle.presolve_model.specs.Worlds.{Propose, Steps}
use Rattle.txn_world.specs.Workers.{WorldData, state_of}
use Rattle.txn_world.proofs.Stepping.{propose_steps}
use Rattle.txn_world.proofs.world.World.propose.Goals as goal

pub returns-clause-ok : goal.returns-clause-ok
returns-clause-ok c =
    subst (λ (d : WorldData). Steps (state_of d) (Propose c.args.worker c.args.proposal) None (state_of (record { book = c.self.inside.book; workers = c.add_proposal.new.workers.items }))) c.self.view_is
    (propose_steps c.self.inside.book c.self.inside.workers.items c.add_proposal.new.workers.items c.args.worker c.args.proposal c.in_ok-add_proposal.ensures.ok)
