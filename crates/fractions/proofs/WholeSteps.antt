-- Whole numbers among numbers: their products and sums are those of the numerators, and a number has the sign of its numerator.
use Rattle.std.proofs.Common.{◌≡◌, ℕ, ◌<◌, ◌^◌, ℤ, pos, ◌+ℤ◌, ◌*ℤ◌, ◌<ℤ◌, ◌*◌, ◌/◌, nat_abs, sym, refl, ap, ap₂, ◌∙◌, subst, arith, lit<, ◌↔◌, Bool, IsTrue}
use Rattle.std.specs.Cmp.{both_ways}
use Rattle.std.specs.Ordering.{int_cmp}
use Rattle.fractions.specs.Gcd.{gcd}
use Rattle.fractions.specs.Number.{Number, zero_ℚ, ◌+ℚ◌}
use Rattle.fractions.specs.Compare.{lt_ℚ, number_cmp, number_cmp-ratio}
use Rattle.fractions.specs.Lowest.{ratio, IsLowest}
use Rattle.fractions.specs.Comparisons.{lt_ℚ-is, cmp-Less}
use Rattle.fractions.proofs.Floors.{IsLowest-whole}
use Rattle.fractions.proofs.Quotients.{of_whole}
use Rattle.fractions.specs.FracWords.{StepsFit}
use Rattle.fractions.proofs.LowestTerms.{int_cmp-Less}
use Rattle.fractions.proofs.ProductSteps.{IsProduct, product_lowest}
use Rattle.fractions.proofs.SumSteps.{sum_lowest}

one_times : (x : ℤ) → x *ℤ pos 1 ≡ x
one_times x = grind arith

zero_times : (d : ℕ) → pos 0 *ℤ pos d ≡ pos 0
zero_times d = grind arith

pub whole_product : (x y : ℤ) (d e : ℕ) → d ≡ 1 → e ≡ 1 → IsLowest x d → IsLowest y e → IsProduct x d y e (x *ℤ y) 1
whole_product x y d e p q = subst (λ (k : ℕ). IsLowest x k → IsLowest y e → IsProduct x k y e (x *ℤ y) 1) (sym p) (subst (λ (k : ℕ). IsLowest x 1 → IsLowest y k → IsProduct x 1 y k (x *ℤ y) 1) (sym q)
    (λ lx ly. product_lowest x y x y 1 1 1 1 lx ly (sym lx.coprime) (sym ly.coprime) (one_times x) (one_times y)))

-- what a sum of whole numbers is
pub record IsWholeSum (x : ℤ) (d : ℕ) (y : ℤ) (e : ℕ) : Type 0 where
  pub fits : StepsFit x d y e ↔ (nat_abs (x +ℤ y) < 2 ^ 127)
  pub lowest : nat_abs (x +ℤ y) < 2 ^ 127 → IsLowest (x +ℤ y) 1
  pub equal : nat_abs (x +ℤ y) < 2 ^ 127 → ratio (x +ℤ y) 1 ≡ ratio x d +ℚ ratio y e

gcd_one : gcd 1 1 ≡ 1
gcd_one = (IsLowest-whole (pos 1) (lit< tt)).coprime

part_is : (x : ℤ) → x *ℤ pos (1 / gcd 1 1) ≡ x
part_is x = ap (λ (g : ℕ). x *ℤ pos (1 / g)) gcd_one ∙ one_times x

total_is : (x y : ℤ) → x *ℤ pos (1 / gcd 1 1) +ℤ y *ℤ pos (1 / gcd 1 1) ≡ x +ℤ y
total_is x y = ap₂ ◌+ℤ◌ (part_is x) (part_is y)

again_is : (x y : ℤ) → nat_abs (x +ℤ y) < 2 ^ 127 → gcd (nat_abs (x *ℤ pos (1 / gcd 1 1) +ℤ y *ℤ pos (1 / gcd 1 1))) (gcd 1 1) ≡ 1
again_is x y h = ap₂ (λ (z : ℤ) (g : ℕ). gcd (nat_abs z) g) (total_is x y) gcd_one ∙ (IsLowest-whole (x +ℤ y) h).coprime

steps_fit : (x y : ℤ) → IsLowest x 1 → IsLowest y 1 → nat_abs (x +ℤ y) < 2 ^ 127 → StepsFit x 1 y 1
steps_fit x y lx ly h = record {
  left = subst (λ (z : ℤ). nat_abs z < 2 ^ 127) (sym (part_is x)) lx.over_fits;
  right = subst (λ (z : ℤ). nat_abs z < 2 ^ 127) (sym (part_is y)) ly.over_fits;
  sum = subst (λ (z : ℤ). nat_abs z < 2 ^ 127) (sym (total_is x y)) h;
  under = subst (λ (g : ℕ). (1 / g) * (1 / gcd (nat_abs (x *ℤ pos (1 / gcd 1 1) +ℤ y *ℤ pos (1 / gcd 1 1))) (gcd 1 1)) < 2 ^ 127) (sym gcd_one) (subst (λ (k : ℕ). (1 / 1) * (1 / k) < 2 ^ 127) (sym (again_is x y h)) (lit< tt));
}

sum_of_whole : (x y : ℤ) → IsLowest x 1 → IsLowest y 1 → nat_abs (x +ℤ y) < 2 ^ 127 → IsLowest (x +ℤ y) 1 × (ratio (x +ℤ y) 1 ≡ ratio x 1 +ℚ ratio y 1)
sum_of_whole x y lx ly h =
    sum_lowest x y x y (x +ℤ y) (x +ℤ y) 1 1 1 1 1 lx ly (sym gcd_one) (sym (one_times x)) (sym (one_times y)) refl (sym (IsLowest-whole (x +ℤ y) h).coprime) (one_times (x +ℤ y)) refl h (lit< tt)

pub whole_sum : (x y : ℤ) (d e : ℕ) → d ≡ 1 → e ≡ 1 → IsLowest x d → IsLowest y e → IsWholeSum x d y e
whole_sum x y d e p q = subst (λ (k : ℕ). IsLowest x k → IsLowest y e → IsWholeSum x k y e) (sym p) (subst (λ (k : ℕ). IsLowest x 1 → IsLowest y k → IsWholeSum x 1 y k) (sym q) (λ lx ly. record {
  fits = (λ s. subst (λ (z : ℤ). nat_abs z < 2 ^ 127) (total_is x y) s.sum, λ h. steps_fit x y lx ly h);
  lowest = λ h. (sum_of_whole x y lx ly h).0;
  equal = λ h. (sum_of_whole x y lx ly h).1;
}))

-- how a number compares with 0
with_zero : (n : ℤ) (d : ℕ) (q : Number) → IsLowest n d → ratio n d ≡ q → number_cmp q zero_ℚ ≡ int_cmp n (pos 0)
with_zero n d q low e =
    ap₂ number_cmp (sym e) (sym (of_whole (pos 0))) ∙ number_cmp-ratio n (pos 0) d 1 low.positive (lit< tt) ∙ ap₂ int_cmp (one_times n) (zero_times d)

zero_with : (n : ℤ) (d : ℕ) (q : Number) → IsLowest n d → ratio n d ≡ q → number_cmp zero_ℚ q ≡ int_cmp (pos 0) n
zero_with n d q low e =
    ap₂ number_cmp (sym (of_whole (pos 0))) (sym e) ∙ number_cmp-ratio (pos 0) n 1 d (lit< tt) low.positive ∙ ap₂ int_cmp (zero_times d) (one_times n)

less_is : (p q : Number) (a c : ℤ) (b : Bool) → number_cmp p q ≡ int_cmp a c → IsTrue b ↔ (a <ℤ c) → b ≡ lt_ℚ p q
less_is p q a c b e t =
    both_ways _ _ (λ h. (lt_ℚ-is p q).1 ((cmp-Less p q).0 (e ∙ (int_cmp-Less a c).1 (t.0 h)))) (λ h. t.1 ((int_cmp-Less a c).0 (sym e ∙ (cmp-Less p q).1 ((lt_ℚ-is p q).0 h))))

-- a number is below 0 where its numerator is
pub negative_is : (n : ℤ) (d : ℕ) (q : Number) (b : Bool) → IsLowest n d → ratio n d ≡ q → IsTrue b ↔ (n <ℤ pos 0) → b ≡ lt_ℚ q zero_ℚ
negative_is n d q b low e t = less_is q zero_ℚ n (pos 0) b (with_zero n d q low e) t

-- and above 0 where its numerator is
pub positive_is : (n : ℤ) (d : ℕ) (q : Number) (b : Bool) → IsLowest n d → ratio n d ≡ q → IsTrue b ↔ (pos 0 <ℤ n) → b ≡ lt_ℚ zero_ℚ q
positive_is n d q b low e t = less_is zero_ℚ q (pos 0) n b (zero_with n d q low e) t
