use Rattle.std.proofs.Common.{◌≡◌, ◌∙◌, Some, refl, sym, subst}
use Rattle.coef_laws.specs.declared.tightening.Tightening.{Tightening}
use Rattle.coef_laws.specs.CoefficientTightening.{ComputedBy, tightening_of}
use Rattle.coef_rules.proofs.Looks.{edits_are}
use Rattle.coef_rules.proofs.coefficient_tightening.change.Goals as goal

pub returns : goal.returns
returns c =
    let t : Tightening = c.in-Some.tightening in
    let e : tightening_of c.args.problem.now c.args.row c.args.column ≡ Some t = sym c.tightening_of.ensures ∙ c.in-Some.is in
    let limit = c.in_ok-new_limit.ensures.fits.0 refl in (
      subst ComputedBy (sym e) (record { coefficient = c.in_ok-coefficient.ensures.fits.0 refl; product = limit.0; limit = limit.1 }),
      tt,
      record {
        edits = edits_are c.args.problem.now c.args.row c.args.column t c.in_ok-coefficient.coefficient c.in_ok-new_limit.field-0 c.side_set-sides.result c.in_ok-edits_for.field-0.items e
            c.in_ok-coefficient.ensures.value c.in_ok-new_limit.ensures.value c.side_set-sides.ensures c.in_ok-edits_for.ensures;
        record_is = refl;
      },
    )
