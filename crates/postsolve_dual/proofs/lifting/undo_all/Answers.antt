use Rattle.std.proofs.Common.{arith, refl, ◌≡◌, ◌<◌, ◌-◌, suc, length}
use Rattle.lp_model.proofs.Sums.{not_so}
use Rattle.postsolve_dual.proofs.Lifts.{lifted_more, fits_more, stops, stopped}
use Rattle.postsolve_dual.proofs.lifting.undo_all.Goals as goal

pub loop-left-preserved : goal.loop-left-preserved
loop-left-preserved g c =
    let below : c.loop-left.left - 1 < length c.args.undos.now = omega (arith, c.loop-left.invariant.within, c.loop-left-test.true) in
    let next : c.loop-left.left ≡ suc (c.loop-left.left - 1) = omega (arith, c.loop-left-test.true) in
    record {
      within = omega (arith, c.loop-left.invariant.within);
      sized = c.undo_pair.ensures.sized _ _ c.loop-left.invariant.sized;
      lifted = lifted_more _ _ _ _ _ _ _ below next c.index-undos-left.is c.loop-left.invariant.lifted c.in-Ok.ensures.lifted;
      fits = fits_more g.T.Exact.room _ _ _ _ _ _ below next c.index-undos-left.is c.loop-left.invariant.lifted c.loop-left.invariant.fits (c.in-Ok.ensures.fits refl);
    }

pub returns-then-says_past-clause-fits : goal.returns-then-says_past-clause-fits
returns-then-says_past-clause-fits g c =
    let below : c.loop-left.left - 1 < length c.args.undos.now = omega (arith, c.loop-left.invariant.within, c.loop-left-test.true) in
    let next : c.loop-left.left ≡ suc (c.loop-left.left - 1) = omega (arith, c.loop-left-test.true) in (
      (λ k. absurd (not_so k)),
      λ h. absurd (stopped g.T.Exact.room _ _ _ (stops g.T.Exact.room _ _ _ _ _ _ below next c.index-undos-left.is c.loop-left.invariant.lifted c.loop-left.invariant.fits (c.in-Err.ensures.past (c.says_past.ensures.0 c.if-says_past.true))) h),
    )
