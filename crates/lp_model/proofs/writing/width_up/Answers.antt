use Rattle.std.proofs.Common.{sym, ◌∙◌, subst, IsOk, Some}
use Rattle.lp_model.specs.Ends.{WidthFits}
use Rattle.lp_model.proofs.writing.width_up.Goals as goal

pub returns-in-Some-clause-fits : goal.returns-in-Some-clause-fits
returns-in-Some-clause-fits c = subst (λ e. (IsOk c.finite_width.result → WidthFits (Some c.args.from.now) e) × (WidthFits (Some c.args.from.now) e → IsOk c.finite_width.result)) (sym c.in-Some.is ∙ c.number.ensures) c.finite_width.ensures.fits
