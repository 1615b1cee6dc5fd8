use Rattle.std.proofs.Common.{refl}
use Rattle.std.proofs.lemmas.Result.{err_from_is_err_and}
use Rattle.lp_model.proofs.Sums.{not_so}
use Rattle.ray_lift.proofs.Ratios.{taken_none, taken_more, taken_stops, taken_all}
use Rattle.ray_lift.proofs.forcing.ratios.Goals as goal

pub loop-term-init : goal.loop-term-init
loop-term-init c = taken_none _ _ _ _ _ c.zero-sum.ensures.value c.requires.entries

pub loop-term-preserved : goal.loop-term-preserved
loop-term-preserved c = taken_more _ _ _ _ _ _ _ _ _ c.in-Some.ensures.cases.0 c.in_ok-sum.ensures.value (c.in_ok-sum.ensures.fits.0 refl) c.loop-term.invariant

pub returns-in_err-sum-clause-fits : goal.returns-in_err-sum-clause-fits
returns-in_err-sum-clause-fits c =
    let p = err_from_is_err_and c.from_residual.result c.from_residual.ensures.1 in
    rw p.1 (
      (λ k. absurd (not_so k)),
      λ f. absurd (taken_stops _ _ _ _ _ _ _ _ c.in-Some.ensures.cases.0 (λ h. not_so (c.in_err-sum.ensures.fits.1 h)) c.loop-term.invariant f),
    )

pub returns-clause-value : goal.returns-clause-value
returns-clause-value c = (taken_all _ _ _ _ _ _ c.in_default.ensures.cases c.loop-term.invariant).0

pub returns-clause-fits : goal.returns-clause-fits
returns-clause-fits c = ((λ _. (taken_all _ _ _ _ _ _ c.in_default.ensures.cases c.loop-term.invariant).1), λ _. refl)
