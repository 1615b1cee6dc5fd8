-- Numbers and the sums of sides and widths.
use Rattle.std.proofs.Common.{◌≡◌, ℕ, ℤ, pos, Bool, true, false, cond, [], ◌∷◌, Option, Some, None, unwrap_or, arith, refl, sym, ap, ap₂}
use Rattle.std.specs.Prelude.{not, ◌||◌}
use Rattle.std.proofs.lemmas.Bool.{false_from_ne_true}
use Rattle.std.proofs.lemmas.Bool.Decides.{nat_tests}
use Rattle.fractions.specs.Ring.{ring, v, num, ◌:+◌, ◌:-◌, inv}
use Rattle.fractions.specs.Number.{Number, rational, zero_ℚ, ◌+ℚ◌, ◌-ℚ◌, neg_ℚ}
use Rattle.fractions.specs.Order.{◌≤ℚ◌, ≤ℚ-by, <ℚ-not}
use Rattle.fractions.specs.Compare.{eq_ℚ, lt_ℚ}
use Rattle.fractions.specs.Comparisons.{lt_ℚ-is, eq_ℚ-is}
use Rattle.fractions.specs.FracWords.{StepsFit, SumFits}
use Rattle.fractions.specs.declared.Numbers.{Numbers}
use Rattle.number_texts.specs.Read.{is_taken}
use Rattle.mps_profile.specs.Sides.{magnitude, steps_fit, sum_fits, is_past_sum}

pub neg_neg : (q : Number) → neg_ℚ (neg_ℚ q) ≡ q
neg_neg q = ring rational (q ∷ []) (inv (inv (v 0))) (v 0) refl

pub sum_back : (l u : Number) → l +ℚ (u -ℚ l) ≡ u
sum_back l u = ring rational (l ∷ u ∷ []) (v 0 :+ (v 1 :- v 0)) (v 1) refl

width_above : (l u : Number) → l ≤ℚ u → zero_ℚ ≤ℚ (u -ℚ l)
width_above l u h = ≤ℚ-by l u zero_ℚ (u -ℚ l) (ring rational (l ∷ u ∷ []) (v 1 :- v 0) ((v 1 :- v 0) :- num (pos 0)) refl) h

pub width_magnitude : (l u : Number) → l ≤ℚ u → magnitude (u -ℚ l) ≡ u -ℚ l
width_magnitude l u h =
    ap (λ (b : Bool). cond b (neg_ℚ (u -ℚ l)) (u -ℚ l))
    (false_from_ne_true (lt_ℚ (u -ℚ l) zero_ℚ) (λ e. <ℚ-not ((lt_ℚ-is (u -ℚ l) zero_ℚ).0 e) (width_above l u h)))

fit_steps : (a : ℤ) (b : ℕ) (c : ℤ) (d : ℕ) → StepsFit a b c d → steps_fit a b c d ≡ true
fit_steps a b c d h = let l = h.left in let r = h.right in let s = h.sum in let u = h.under in grind (arith, nat_tests)

sum_fits_is : (p q : Number) → SumFits p q → sum_fits p q ≡ true
unfolding sum_fits
sum_fits_is p q h = fit_steps _ _ _ _ h

pub not_past : (numbers : Numbers) (p q : Number) → SumFits p q → is_taken numbers (p +ℚ q) ≡ true → is_past_sum numbers p q ≡ false
not_past numbers p q fits taken = ap₂ (λ (a b : Bool). not a || not b) (sum_fits_is p q fits) taken

-- a number that is not 0
abbrev pub nonzero : Option Number → Option Number
nonzero None = None
nonzero (Some q) = cond (eq_ℚ q zero_ℚ) None (Some q)

pub or_zero : (o : Option Number) → unwrap_or (nonzero o) zero_ℚ ≡ unwrap_or o zero_ℚ
or_zero None = refl
or_zero (Some q) = by_test (eq_ℚ q zero_ℚ) refl
  where
    by_test : (b : Bool) → eq_ℚ q zero_ℚ ≡ b → unwrap_or (cond b None (Some q)) zero_ℚ ≡ q
    by_test true is = sym ((eq_ℚ-is q zero_ℚ).0 is)
    by_test false is = refl
