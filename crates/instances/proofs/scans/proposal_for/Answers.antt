use Rattle.std.proofs.Common.{List, sym, subst}
use Rattle.problem_model.specs.declared.part.Read.{Read}
use Rattle.presolve_model.specs.Enabled.{Enabled}
use Rattle.instances.proofs.Proposing.{reading_enables}
use Rattle.instances.proofs.scans.proposal_for.Goals as goal

pub new-requires : goal.new-requires
new-requires c = subst (λ (rs : List Read). Enabled c.args.instance rs) (sym c.in_ok-reading.ensures) (reading_enables c.args.walk.now.problem.now c.args.instance c.requires.enabled)
