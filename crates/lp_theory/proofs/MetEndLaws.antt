-- Ends that meet those of a deleted row over a factor, and which of them holds a multiplier.
use Rattle.std.proofs.Common.{◌≡◌, ◌≢◌, pos, sym, refl, ap, ◌∙◌, [], ◌∷◌, ◌⊎◌, inl, inr, subst, Option, Some, None, Bool, true, false, not, T, ◌&&◌, ◌||◌}
use Rattle.std.specs.Prelude.{if◌then◌else◌}
use Rattle.fractions.specs.Ring.{ring, v, num, ◌:*◌}
use Rattle.fractions.specs.Number.{Number, rational, zero_ℚ, ◌*ℚ◌}
use Rattle.fractions.specs.Order.{◌≤ℚ◌, ◌<ℚ◌, ≤ℚ_antisym, ≤ℚ_cases}
use Rattle.fractions.specs.Compare.{lt_ℚ, le_ℚ}
use Rattle.fractions.specs.Division.{◌/ℚ◌, inv_ℚ}
use Rattle.fractions.specs.Ends.{Between, over, meet_low, meet_high, same_end}
use Rattle.fractions.specs.Signs.{over-times, over-≤, over-≤_down}
use Rattle.fractions.proofs.EndLaws.{same_end-is, over-low, over-high, over-low_down, over-high_down}
use Rattle.lp_theory.specs.MetEnds.{lower_over, upper_over}
use Rattle.lp_theory.proofs.ActivityLaws.{lt_true, lt_false}
use Rattle.lp_theory.proofs.Pairs.{some_inj}

-- ---- sides over an entry
pub below_zero : (a : Number) → lt_ℚ zero_ℚ a ≡ false → a ≢ zero_ℚ → a <ℚ zero_ℚ
below_zero a e n = elim (≤ℚ_cases zero_ℚ a) [ inl h ↦ absurd (n (≤ℚ_antisym (lt_false zero_ℚ a e) h)) | inr h ↦ h ]

pub sides_in : (a x : Number) (L U : Option Number) → a ≢ zero_ℚ → Between L U (a *ℚ x) → Between (lower_over a L U) (upper_over a L U) x
sides_in a x L U n b = by (lt_ℚ zero_ℚ a) refl
  where
    by : (s : Bool) → lt_ℚ zero_ℚ a ≡ s → Between (if s then over L a else over U a) (if s then over U a else over L a) x
    by true e = let p = lt_true zero_ℚ a e in record { low = (over-low L a x p).1 b.low; high = (over-high U a x p).1 b.high }
    by false e = let p = below_zero a e n in record { low = (over-low_down U a x p).1 b.high; high = (over-high_down L a x p).1 b.low }

pub sides_out : (a x : Number) (L U : Option Number) → a ≢ zero_ℚ → Between (lower_over a L U) (upper_over a L U) x → Between L U (a *ℚ x)
sides_out a x L U n = by (lt_ℚ zero_ℚ a) refl
  where
    by : (s : Bool) → lt_ℚ zero_ℚ a ≡ s → Between (if s then over L a else over U a) (if s then over U a else over L a) x → Between L U (a *ℚ x)
    by true e b = let p = lt_true zero_ℚ a e in record { low = (over-low L a x p).0 b.low; high = (over-high U a x p).0 b.high }
    by false e b = let p = below_zero a e n in record { low = (over-high_down L a x p).0 b.high; high = (over-low_down U a x p).0 b.low }

-- a side over the entry that is x is the entry times x
pub over_is : (o : Option Number) (a x : Number) → a ≢ zero_ℚ → over o a ≡ Some x → o ≡ Some (a *ℚ x)
over_is None a x n e = cc
over_is (Some c) a x n e = ap Some (sym (over-times a c n) ∙ ap (λ q. a *ℚ q) (some_inj e))

pub zero-over : (a : Number) → zero_ℚ /ℚ a ≡ zero_ℚ
zero-over a = ring rational (inv_ℚ a ∷ []) (num (pos 0) :* v 0) (num (pos 0)) refl

-- ---- the sign of a quotient
pub quotient_up : (a z : Number) → zero_ℚ <ℚ a → zero_ℚ ≤ℚ z → zero_ℚ ≤ℚ (z /ℚ a)
quotient_up a z h k = subst (λ c. c ≤ℚ (z /ℚ a)) (zero-over a) (over-≤ a h k)

pub quotient_up' : (a z : Number) → a <ℚ zero_ℚ → z ≤ℚ zero_ℚ → zero_ℚ ≤ℚ (z /ℚ a)
quotient_up' a z h k = subst (λ c. c ≤ℚ (z /ℚ a)) (zero-over a) (over-≤_down a h k)

pub quotient_down : (a z : Number) → zero_ℚ <ℚ a → z ≤ℚ zero_ℚ → (z /ℚ a) ≤ℚ zero_ℚ
quotient_down a z h k = subst (λ c. (z /ℚ a) ≤ℚ c) (zero-over a) (over-≤ a h k)

pub quotient_down' : (a z : Number) → a <ℚ zero_ℚ → zero_ℚ ≤ℚ z → (z /ℚ a) ≤ℚ zero_ℚ
quotient_down' a z h k = subst (λ c. (z /ℚ a) ≤ℚ c) (zero-over a) (over-≤_down a h k)

-- ---- which end holds a multiplier
pub meet_low_one : (p q : Option Number) (x : Number) → meet_low p q ≡ Some x → (p ≡ Some x) ⊎ (q ≡ Some x)
meet_low_one None q x e = inr e
meet_low_one (Some a) None x e = inl e
meet_low_one (Some a) (Some b) x e = (elim (le_ℚ a b) as (λ t. Some (if t then b else a) ≡ Some x → (Some a ≡ Some x) ⊎ (Some b ≡ Some x)) [ true ↦ λ e. inr e | false ↦ λ e. inl e ]) e

pub meet_high_one : (p q : Option Number) (x : Number) → meet_high p q ≡ Some x → (p ≡ Some x) ⊎ (q ≡ Some x)
meet_high_one None q x e = inr e
meet_high_one (Some a) None x e = inl e
meet_high_one (Some a) (Some b) x e = (elim (le_ℚ a b) as (λ t. Some (if t then a else b) ≡ Some x → (Some a ≡ Some x) ⊎ (Some b ≡ Some x)) [ true ↦ λ e. inl e | false ↦ λ e. inr e ]) e

pub not_true : {b : Bool} → not b ≡ true → b ≡ true → ⊥
not_true {b} e f = let g : not true ≡ true = subst (λ t. not t ≡ true) f e in cc

-- the one that is not the old end
pub new_end : (p q : Option Number) (x : Number) → (p ≡ Some x) ⊎ (q ≡ Some x) → not (same_end p (Some x)) ≡ true → q ≡ Some x
new_end p q x (inl e) n = absurd (not_true n ((same_end-is p (Some x)).1 e))
new_end p q x (inr e) n = e

pub and_false : (a b : Bool) → (a && not b) ≡ false → a ≡ true → b ≡ true
and_false true true e f = refl
and_false true false e f = cc
and_false false b e f = cc

pub or_false : (a b : Bool) → (a || b) ≡ false → (a ≡ false) × (b ≡ false)
or_false true b e = cc
or_false false b e = (refl, e)

pub lt_is : (p q : Number) → p <ℚ q → lt_ℚ p q ≡ true
lt_is p q h = by (lt_ℚ p q) h.lt
  where
    by : (t : Bool) → T t → t ≡ true
    by true k = refl
    by false k = absurd k
