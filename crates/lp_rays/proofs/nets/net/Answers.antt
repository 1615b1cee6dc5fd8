use Rattle.std.proofs.Common.{refl}
use Rattle.std.proofs.lemmas.Result.{err_from_is_err_and}
use Rattle.lp_model.proofs.Sums.{not_so}
use Rattle.lp_rays.proofs.Netting.{netted_none, netted_more, netted_stops, netted_all}
use Rattle.lp_rays.proofs.nets.net.Goals as goal

pub loop-entry-init : goal.loop-entry-init
loop-entry-init c = netted_none _ _ _ _ c.zero-sum.ensures.value c.requires.lower

pub loop-entry-preserved : goal.loop-entry-preserved
loop-entry-preserved c = netted_more _ _ _ _ _ _ _ _ c.in-Some.ensures.cases.0 c.in_ok-sum.ensures.value (c.in_ok-sum.ensures.fits.0 refl) c.loop-entry.invariant

pub returns-in_err-sum-clause-fits : goal.returns-in_err-sum-clause-fits
returns-in_err-sum-clause-fits c =
    let p = err_from_is_err_and c.from_residual.result c.from_residual.ensures.1 in
    rw p.1 (
      (λ k. absurd (not_so k)),
      λ f. absurd (netted_stops _ _ _ _ _ _ _ c.in-Some.ensures.cases.0 (λ h. not_so (c.in_err-sum.ensures.fits.1 h)) c.loop-entry.invariant f),
    )

pub returns-clause-value : goal.returns-clause-value
returns-clause-value c = (netted_all _ _ _ _ _ c.in_default.ensures.cases c.loop-entry.invariant).0

pub returns-clause-fits : goal.returns-clause-fits
returns-clause-fits c = ((λ _. (netted_all _ _ _ _ _ c.in_default.ensures.cases c.loop-entry.invariant).1), λ _. refl)
