use Rattle.std.proofs.Common.{arith, refl, ◌≡◌, ◌<◌, ◌-◌, suc, length}
use Rattle.lp_model.proofs.Sums.{not_so}
use Rattle.ray_lift.proofs.Lifts.{lifted_more, fits_more, stops, stopped}
use Rattle.ray_lift.proofs.lifting.lift.Goals as goal

pub loop-left-preserved : goal.loop-left-preserved
loop-left-preserved c =
    let below : c.loop-left.left - 1 < length c.args.steps.now = omega (arith, c.loop-left.invariant.within, c.loop-left-test.true) in
    let next : c.loop-left.left ≡ suc (c.loop-left.left - 1) = omega (arith, c.loop-left-test.true) in
    record {
      within = omega (arith, c.loop-left.invariant.within);
      sized = c.undo_step.ensures.sized _ _ c.loop-left.invariant.sized;
      lifted = lifted_more _ _ _ _ _ _ _ below next c.index-steps-left.is c.loop-left.invariant.lifted c.in-Ok.ensures.lifted;
      fits = fits_more _ _ _ _ _ _ below next c.index-steps-left.is c.loop-left.invariant.lifted c.loop-left.invariant.fits (c.in-Ok.ensures.fits.0 refl);
    }

pub returns-in-Err-clause-fits : goal.returns-in-Err-clause-fits
returns-in-Err-clause-fits c =
    let below : c.loop-left.left - 1 < length c.args.steps.now = omega (arith, c.loop-left.invariant.within, c.loop-left-test.true) in
    let next : c.loop-left.left ≡ suc (c.loop-left.left - 1) = omega (arith, c.loop-left-test.true) in (
      (λ k. absurd (not_so k)),
      λ h. absurd (stopped _ _ _ (stops _ _ _ _ _ _ below next c.index-steps-left.is c.loop-left.invariant.lifted c.loop-left.invariant.fits (λ g. not_so (c.in-Err.ensures.fits.1 g))) h),
    )
