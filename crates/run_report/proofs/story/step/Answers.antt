use Rattle.std.proofs.Common.{◌≡◌, ℕ, true, false, ap, refl, sym, ◌∙◌}
use Rattle.problem_model.specs.Sparse.{Sparse}
use Rattle.presolve_model.specs.declared.instance.Instance.TheVariants as at
use Rattle.presolve_model.specs.Commits.{with_instance}
use Rattle.presolve_model.specs.Enabled.{enabled_on}
use Rattle.run_report.proofs.Stepping.{not_stepped}
use Rattle.run_report.proofs.story.step.Goals as goal

pub returns-then-not-is_enabled : goal.returns-then-not-is_enabled
returns-then-not-is_enabled c = (refl, λ none room can. absurd (let f : false ≡ true = sym c.if-not-is_enabled.true ∙ c.is_enabled.ensures ∙ ap (λ (p : Sparse). enabled_on p (at.Reduction c.args.reduction)) c.problem.ensures ∙ can.enabled in cc))

pub apply-requires : goal.apply-requires
apply-requires c = record { enabled = ap (λ (p : Sparse). enabled_on p (at.Reduction c.args.reduction)) (sym c.problem.ensures) ∙ sym c.is_enabled.ensures ∙ c.if-not-is_enabled.false }

pub returns-in-Applied : goal.returns-in-Applied
returns-in-Applied c = c.in-Applied.ensures.left ∙ ap (λ (v : ℕ). with_instance c.args.book.now 0 v (at.Reduction c.args.reduction)) c.instance_count-version.ensures

-- what is not applied leaves the book, since it can't be
pub returns : goal.returns
returns c = not_stepped c.args.book.now c.apply.new.self _ c.args.reduction c.apply.result c.in_default.not-NoMemory c.in_default.not-Applied c.apply.ensures.outcome c.apply.ensures.left
