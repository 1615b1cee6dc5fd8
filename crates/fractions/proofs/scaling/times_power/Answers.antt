use Rattle.std.proofs.Common.{◌^◌, arith, ap, ◌∙◌, sym, ℕ, ℤ, pos, ◌*ℤ◌}
use Rattle.fractions.specs.Lowest.{ratio, Fits}
use Rattle.fractions.proofs.Quotients.{of_whole, whole_fits}
use Rattle.fractions.proofs.ScalingLaws.{past_up, scaled-up, OkIff-err, known}
use Rattle.fractions.proofs.scaling.times_power.Goals as goal

pub returns-then-k-gt38 : goal.returns-then-k-gt38
returns-then-k-gt38 c = λ h. past_up c.args.n c.args.k 0 c.requires (omega arith) h

pub returns-in_err-all : goal.returns-in_err-all
returns-in_err-all c = OkIff-err _ _ _ c.from_residual.ensures.0 (λ h.
    let f : Fits (ratio (c.args.n *ℤ pos (10 ^ c.args.k)) 1) = rw (← scaled-up c.args.n c.args.k) h in
    c.in_err-all.ensures (rw c.power.ensures.value (whole_fits (c.args.n *ℤ pos (10 ^ c.args.k)) f)))

pub returns : goal.returns
returns c = known _ _ (c.whole.ensures.value ∙ sym (of_whole c.in_ok-all.all) ∙ ap (λ (z : ℤ). ratio z 1) (c.in_ok-all.ensures.1 ∙ ap (λ (n : ℕ). c.args.n *ℤ pos n) c.power.ensures.value) ∙ sym (scaled-up c.args.n c.args.k)) c.whole.ensures.fits
