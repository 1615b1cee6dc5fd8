use Rattle.std.proofs.Common.{List, sym, subst, ◌∙◌}
use Rattle.problem_model.specs.declared.part.Read.{Read}
use Rattle.presolve_model.specs.Enabled.{Enabled}
use Rattle.instances.proofs.Proposing.{reading_enables}
use Rattle.instances.proofs.looking.look.Goals as goal

pub new-requires : goal.new-requires
new-requires c =
    let on = sym c.is_enabled.ensures ∙ c.if-not-is_enabled.false in
    subst (λ (rs : List Read). Enabled c.args.instance rs) (sym c.in_ok-reading.ensures) (reading_enables c.args.problem.now c.args.instance on)
