use Rattle.std.proofs.Common.{◌≡◌, ◌+◌, ◌-◌, ◌^◌, arith, ap, ap₂, ◌∙◌, sym, ℕ, pos}
use Rattle.fractions.specs.Lowest.{ratio}
use Rattle.fractions.specs.Number.{◌*ℚ◌}
use Rattle.fractions.specs.Scaled.{scaled}
use Rattle.fractions.proofs.ScalingLaws.{past_down, scaled-down, down_twice, OkIff-from, known}
use Rattle.fractions.proofs.scaling.over_power.Goals as goal

pub returns-then-k-le38 : goal.returns-then-k-le38
returns-then-k-le38 c = known _ _ (c.ratio_of.ensures.value ∙ ap (λ (d : ℕ). ratio c.args.n d) c.power.ensures.value ∙ sym (scaled-down c.args.n c.args.k)) c.ratio_of.ensures.fits

pub returns-then-k-gt76 : goal.returns-then-k-gt76
returns-then-k-gt76 c = λ h. past_down c.args.n 0 c.args.k c.requires.some c.requires.small (omega arith) h

pub returns : goal.returns
returns c =
    let k : 38 + (c.args.k - 38) ≡ c.args.k = omega arith in
    let a : c.ratio_of-first.result ≡ ratio c.args.n (10 ^ 38) = c.ratio_of-first.ensures.value ∙ ap (λ (d : ℕ). ratio c.args.n d) c.power-2.ensures.value in
    let b : c.ratio_of-rest.result ≡ ratio (pos 1) (10 ^ (c.args.k - 38)) = c.ratio_of-rest.ensures.value ∙ ap₂ ratio c.natural.ensures c.power-3.ensures.value in
    OkIff-from c.mul.result _ _ c.mul.ensures.value c.mul.ensures.fits (ap₂ ◌*ℚ◌ a b ∙ down_twice c.args.n 38 (c.args.k - 38) ∙ ap (λ (j : ℕ). scaled c.args.n 0 j) k)
