-- The weights of the bounds of a row's columns.
use Rattle.std.proofs.Common.{◌≡◌, pos, [], ◌∷◌, Bool, true, false, refl, ap, ◌∙◌}
use Rattle.std.specs.Prelude.{if◌then◌else◌}
use Rattle.fractions.specs.Ring.{ring, v, num, ◌:+◌, ◌:-◌, ◌:*◌, inv}
use Rattle.fractions.specs.Number.{Number, rational, zero_ℚ, one_ℚ, neg_ℚ, ◌+ℚ◌, ◌-ℚ◌, ◌*ℚ◌}
use Rattle.fractions.specs.Compare.{lt_ℚ}
use Rattle.lp_theory.proofs.ActivityLaws.{lt_true, lt_false}
use Rattle.lp_theory.proofs.Pairs.{not_below}
use Rattle.fractions.specs.Order.{≤ℚ_antisym, <ℚ-not, <ℚ-≤ℚ}
use Rattle.row_spans.specs.declared.span.Extreme.{Extreme}
use Rattle.row_spans.specs.declared.span.Extreme.TheVariants.{Least, Greatest}
use Rattle.lp_rays.specs.Ray.{Weights}
use Rattle.lp_rays.specs.Handing.{pulled_low, pulled_high, pushed_low, pushed_high}
use Rattle.ray_starts.specs.EndWeights.{lower_weight, upper_weight}

-- no entry, no weight
zero_not : lt_ℚ zero_ℚ zero_ℚ ≡ false
zero_not = by (lt_ℚ zero_ℚ zero_ℚ) refl
  where
    by : (c : Bool) → lt_ℚ zero_ℚ zero_ℚ ≡ c → c ≡ false
    by true e = absurd (not_below (lt_true _ _ e))
    by false e = refl

pub no_lower_weight : (extreme : Extreme) → lower_weight extreme zero_ℚ ≡ zero_ℚ
no_lower_weight Least = rw (zero_not) refl
no_lower_weight Greatest = rw (zero_not) (ring rational [] (inv (num (pos 0))) (num (pos 0)) refl)

pub no_upper_weight : (extreme : Extreme) → upper_weight extreme zero_ℚ ≡ zero_ℚ
no_upper_weight Least = rw (zero_not) (ring rational [] (inv (num (pos 0))) (num (pos 0)) refl)
no_upper_weight Greatest = rw (zero_not) refl

-- the size of an entry, as what a row that takes 1 makes of no weight
positive : (a : Number) (b : Bool) → (if b then a else zero_ℚ) ≡ (if b then zero_ℚ +ℚ one_ℚ *ℚ a else zero_ℚ)
positive a true = ring rational (a ∷ []) (v 0) (num (pos 0) :+ num (pos 1) :* v 0) refl
positive a false = refl

negative : (a : Number) (b c : Bool) → lt_ℚ zero_ℚ a ≡ b → lt_ℚ a zero_ℚ ≡ c → (if b then zero_ℚ else neg_ℚ a) ≡ (if c then zero_ℚ -ℚ one_ℚ *ℚ a else zero_ℚ)
negative a true true e f = absurd (<ℚ-not (lt_true _ _ e) (<ℚ-≤ℚ (lt_true _ _ f)))
negative a true false e f = refl
negative a false true e f = ring rational (a ∷ []) (inv (v 0)) (num (pos 0) :- num (pos 1) :* v 0) refl
negative a false false e f = ap neg_ℚ (≤ℚ_antisym (lt_false _ _ e) (lt_false _ _ f)) ∙ ring rational [] (inv (num (pos 0))) (num (pos 0)) refl

pub least_lower : (a : Number) → lower_weight Least a ≡ pulled_low a one_ℚ zero_ℚ
least_lower a = positive a (lt_ℚ zero_ℚ a)

pub least_upper : (a : Number) → upper_weight Least a ≡ pulled_high a one_ℚ zero_ℚ
least_upper a = negative a (lt_ℚ zero_ℚ a) (lt_ℚ a zero_ℚ) refl refl

pub greatest_lower : (a : Number) → lower_weight Greatest a ≡ pushed_low a one_ℚ zero_ℚ
greatest_lower a = negative a (lt_ℚ zero_ℚ a) (lt_ℚ a zero_ℚ) refl refl

pub greatest_upper : (a : Number) → upper_weight Greatest a ≡ pushed_high a one_ℚ zero_ℚ
greatest_upper a = positive a (lt_ℚ zero_ℚ a)

-- weights that agree are the same
pub weights_are : (x y : Weights) → x.s ≡ y.s → x.t ≡ y.t → x.p ≡ y.p → x.q ≡ y.q → x ≡ y
weights_are x y a b c d i = record { s = a i; t = b i; p = c i; q = d i }
