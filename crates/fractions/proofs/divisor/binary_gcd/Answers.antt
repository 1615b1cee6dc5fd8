use Rattle.std.proofs.Common.{◌≡◌, ◌<◌, ◌+◌, ◌-◌, ◌/◌, ◌^◌, ◌%◌, ℕ, min, inl, inr, ap, ap₂, ◌∙◌, sym, arith}
use Rattle.std.specs.Int.Count.{count_trailing_zeros}
use Rattle.std.proofs.lemmas.Bool.{cases_lt}
use Rattle.fractions.specs.Gcd.{gcd}
use Rattle.fractions.proofs.GcdSteps.{odd_part, part_is, difference_step, gcd_self}
use Rattle.fractions.proofs.divisor.binary_gcd.Goals as goal

pub loop-x-preserved : goal.loop-x-preserved
loop-x-preserved c =
    let i = c.loop-x.invariant in
    let far : c.abs_diff-rest.result ≡ (c.loop-x.x - c.loop-x.y) + (c.loop-x.y - c.loop-x.x) = c.abs_diff-rest.ensures in
    let some : 0 < (c.loop-x.x - c.loop-x.y) + (c.loop-x.y - c.loop-x.x) = omega (arith, c.loop-x-test.true) in
    let small : (c.loop-x.x - c.loop-x.y) + (c.loop-x.y - c.loop-x.x) < 2 ^ 64 = omega (arith, far, c.abs_diff-rest.type_inv) in
    let o = odd_part 64 ((c.loop-x.x - c.loop-x.y) + (c.loop-x.y - c.loop-x.x)) some small in
    let q : c.abs_diff-rest.result / 2 ^ count_trailing_zeros 64 c.abs_diff-rest.result ≡ o.part = ap (λ (n : ℕ). n / 2 ^ count_trailing_zeros 64 n) far ∙ part_is _ _ o in
    record {
      same = ap₂ gcd q c.min-y.ensures ∙ difference_step c.loop-x.x c.loop-x.y _ o c.loop-x-test.true i.left i.right ∙ i.same;
      left = ap (λ (n : ℕ). n % 2) q ∙ o.odd;
      right = ap (λ (n : ℕ). n % 2) c.min-y.ensures ∙ odd_min c.loop-x.x c.loop-x.y i.left i.right;
      below = omega (arith, c.min-y.ensures, i.below);
    }
  where
    odd_min : (x y : ℕ) → x % 2 ≡ 1 → y % 2 ≡ 1 → min x y % 2 ≡ 1
    odd_min x y h k = elim (cases_lt x y) [
      | inl l ↦ ap (λ (n : ℕ). n % 2) (let m : min x y ≡ x = omega (arith, l) in m) ∙ h
      | inr l ↦ ap (λ (n : ℕ). n % 2) (let m : min x y ≡ y = omega (arith, l) in m) ∙ k
    ]

pub returns-clause-value : goal.returns-clause-value
returns-clause-value c =
    let e : c.loop-x.y ≡ c.loop-x.x = omega arith in
    sym (gcd_self c.loop-x.x) ∙ ap (gcd c.loop-x.x) (sym e) ∙ c.loop-x.invariant.same

pub returns-clause-below_right : goal.returns-clause-below_right
returns-clause-below_right c = omega (arith, c.loop-x.invariant.below)
