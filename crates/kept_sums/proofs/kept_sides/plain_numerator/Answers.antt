use Rattle.std.proofs.Common.{◌≡◌, ◌*◌, ◌*ℤ◌, ℕ, ℤ, pos, Option, Some, None, IfSome, ap, ap₂, sym, ◌∙◌}
use Rattle.fractions.specs.Lowest.{over_of, under_of}
use Rattle.fractions.specs.Number.{◌*ℚ◌}
use Rattle.kept_sums.specs.KeptSides.{IsNumerator}
use Rattle.kept_sums.proofs.Replaced.{product_over, product_over_first}
use Rattle.kept_sums.proofs.kept_sides.plain_numerator.Goals as goal

pub returns-in-Ok-scaled : goal.returns-in-Ok-scaled
returns-in-Ok-scaled c =
    let both : c.in_ok-both.both ≡ under_of c.args.value.now * under_of c.args.bound.now = c.in_ok-both.ensures.1 ∙ ap₂ (λ (m n : ℕ). m * n) c.parts-first.ensures.den c.parts-second.ensures.den in
    let over : c.in-Ok.numerator ≡ over_of c.args.value.now *ℤ over_of c.args.bound.now = c.in-Ok.ensures.1 ∙ ap₂ (λ (x y : ℤ). x *ℤ y) c.parts-first.ensures.num c.parts-second.ensures.num in
    product_over c.args.value.now c.args.bound.now c.args.denominator c.quotient-part.result c.in-Ok-scaled.scaled c.requires.positive
    (ap (λ (n : ℕ). c.quotient-part.result * n) (sym both) ∙ sym c.in_ok-checked_mul.ensures.1 ∙ c.if-branch-denominator.false)
    (c.in-Ok-scaled.ensures.1 ∙ ap (λ (x : ℤ). x *ℤ pos c.quotient-part.result) over)

pub returns-then-second-eq1 : goal.returns-then-second-eq1
returns-then-second-eq1 c = by c.times_numerator.result c.times_numerator.ensures
  where
    by : (o : Option ℤ) → IfSome o (λ z. z ≡ c.parts-first.result.num *ℤ c.parts-second.result.num) → IfSome o (λ z. IsNumerator c.args.denominator (c.args.value.now *ℚ c.args.bound.now) z)
    by None e = tt
    by (Some z) e =
        product_over_first c.args.value.now c.args.bound.now c.args.denominator z c.requires.positive
        (sym c.parts-first.ensures.den ∙ c.if-first-denominator.true) (sym c.parts-second.ensures.den ∙ c.if-second-eq1.true)
        (e ∙ ap₂ (λ (x y : ℤ). x *ℤ y) c.parts-first.ensures.num c.parts-second.ensures.num)
