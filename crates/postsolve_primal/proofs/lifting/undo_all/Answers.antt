use Rattle.std.proofs.Common.{arith, ◌≡◌, ◌<◌, ◌-◌, suc, length}
use Rattle.postsolve_primal.proofs.Summing.{not_so}
use Rattle.postsolve_primal.proofs.Lifts.{stops, stopped}
use Rattle.postsolve_primal.proofs.lifting.undo_all.Goals as goal

pub returns-then-says_past-clause-fits : goal.returns-then-says_past-clause-fits
returns-then-says_past-clause-fits g c =
    let below : c.loop-left.left - 1 < length c.args.undos.now = omega (arith, c.loop-left.invariant.within, c.loop-left-test.true) in
    let next : c.loop-left.left ≡ suc (c.loop-left.left - 1) = omega (arith, c.loop-left-test.true) in (
      (λ k. absurd (not_so k)),
      λ h. absurd (stopped g.T.Exact.room _ _ _ (stops g.T.Exact.room _ _ _ _ _ _ below next c.index-undos-left.is c.loop-left.invariant.lifted c.loop-left.invariant.fits (c.in-Err.ensures.past (c.says_past.ensures.0 c.if-says_past.true))) h),
    )
