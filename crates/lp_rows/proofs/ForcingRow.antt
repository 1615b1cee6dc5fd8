-- Rows whose side is reached by one activity alone.
use Rattle.std.proofs.Common.{◌≡◌, ◌≢◌, ◌⊎◌, ℕ, zero, suc, ◌<◌, pos, sym, refl, ap, ap₂, ◌∙◌, arith, [], ◌∷◌, inl, inr, subst, Option, Some, None, Bool, true, false}
use Rattle.std.specs.Prelude.{if◌then◌else◌}
use Rattle.std.proofs.lemmas.Bool.{cases_eq}
use Rattle.fractions.specs.Ring.{ring, v, num, ◌:-◌, ◌:*◌}
use Rattle.fractions.specs.Number.{Number, rational, zero_ℚ, ◌-ℚ◌, ◌*ℚ◌}
use Rattle.fractions.specs.Order.{◌≤ℚ◌, ◌<ℚ◌, ≤ℚ_refl, ≤ℚ_trans, ≤ℚ_antisym, ≤ℚ-*ℚ, ≤ℚ_cases, <ℚ-≤ℚ, <ℚ-not}
use Rattle.fractions.specs.Linear.{linear, fact}
use Rattle.fractions.specs.Compare.{lt_ℚ}
use Rattle.fractions.specs.Division.{◌/ℚ◌}
use Rattle.fractions.specs.Total.{total}
use Rattle.fractions.specs.Ends.{AtLeast, AtMost, Between, plus, scaled}
use Rattle.fractions.proofs.MinMaxLaws.{min_ℚ_one, max_ℚ_one, ≤ℚ-max_ℚ_left, ≤ℚ-max_ℚ_right, min_ℚ-≤_left, min_ℚ-≤_right}
use Rattle.fractions.specs.Signs.{≤ℚ-same, ≤ℚ-*ℚ_down, over-times, <ℚ-≢, <ℚ-≢'}
use Rattle.lp_model.specs.declared.program.Sense.{Sense}
use Rattle.lp_model.specs.declared.program.Sense.TheVariants.{Min}
use Rattle.lp_model.specs.Vectors.{Vector}
use Rattle.lp_model.specs.LinearProgram.{LinearProgram, value_at, Feasible}
use Rattle.lp_model.specs.Reductions.{Reduces, Priced, ReducesPairs}
use Rattle.lp_theory.specs.Activities.{total_ends, least_term, least_terms, greatest_terms, least, greatest}
use Rattle.lp_theory.specs.Crossed.{AreCrossed}
use Rattle.lp_theory.specs.Reached.{IsAtLeastEnd, IsAtGreatestEnd}
use Rattle.lp_theory.proofs.ActivityLaws.{lt_true, lt_false, least-value, greatest-value}
use Rattle.lp_theory.proofs.Carrying.{Carries, pairs_of}
use Rattle.lp_theory.proofs.CrossedEnds.{at_lower_end, at_upper_end}
use Rattle.lp_theory.proofs.Pairs.{undo_row, bounded, row_pairs, transfer, plus_some, some_inj}
use Rattle.lp_theory.proofs.Reaching.{least_reached, greatest_reached}
use Rattle.lp_theory.proofs.Steps.{compose_same, redundant_row, same_points}
use Rattle.lp_rows.proofs.SetMultiplier.{set_from_zero}
use Rattle.lp_rows.specs.ForcingRow.{IsForcedAtLowerSide, IsForcedAtUpperSide, lower_at_greatest, upper_at_greatest, lower_at_least, upper_at_least, forced_at_lower_side, forced_at_upper_side, greatest_ratio, least_ratio, IsGreatestRatio, IsLeastRatio, undo_forced_at_lower_side, undo_forced_at_upper_side}

-- ---- sums of ends
-- each part of a finite sum is finite
parts_finite : (n : ℕ) (e : ℕ → Option Number) (g : Number) → total_ends n e ≡ Some g → (k : ℕ) → k < n → (c : Number) × (e k ≡ Some c)
unfolding total_ends
parts_finite zero e g t k l = absurd (omega arith)
parts_finite (suc n) e g t k l = let p = plus_some (total_ends n e) (e n) g t in
    elim (cases_eq k n) [ inl m ↦ rw m (p.1, p.3) | inr m ↦ parts_finite n e p.0 p.2 k (omega arith) ]

total_ends-is : (n : ℕ) (e : ℕ → Option Number) (f : ℕ → Number) → ((k : ℕ) → k < n → e k ≡ Some (f k)) → total_ends n e ≡ Some (total n f)
unfolding total_ends total
total_ends-is zero e f h = refl
total_ends-is (suc n) e f h = ap₂ plus (total_ends-is n e f (λ k l. h k (omega arith))) (h n (omega arith))

-- ---- a column at an end
pinned : (a x c : Number) (o : Option Number) → scaled a o ≡ Some c → Between o o x → o ≡ Some x
pinned a x c None e b = cc
pinned a x c (Some d) e b = ap Some (≤ℚ_antisym b.low b.high)

no_term : (a x : Number) → zero_ℚ ≤ℚ a → a ≤ℚ zero_ℚ → Some zero_ℚ ≡ Some (a *ℚ x)
no_term a x p q = ap Some (ring rational (x ∷ []) (num (pos 0)) (num (pos 0) :* v 0) refl ∙ ap (λ c. c *ℚ x) (≤ℚ_antisym p q))

-- an end whose product is a term
scaled_at : (a x c : Number) (o : Option Number) → scaled a o ≡ Some c → Between o o x → scaled a o ≡ Some (a *ℚ x)
scaled_at a x c o e b = ap (scaled a) (pinned a x c o e b)

-- where both bounds are the end of the greatest term, the column gives it, and lies within its old bounds
greatest_term_at : (a x c : Number) (l u : Option Number) → least_term a u l ≡ Some c → Between (if lt_ℚ zero_ℚ a then u else l) (if lt_ℚ a zero_ℚ then l else u) x → least_term a u l ≡ Some (a *ℚ x)
unfolding least_term
greatest_term_at a x c l u = by (lt_ℚ zero_ℚ a) (lt_ℚ a zero_ℚ) refl refl
  where
    by : (s t : Bool) → lt_ℚ zero_ℚ a ≡ s → lt_ℚ a zero_ℚ ≡ t → (if s then scaled a u else if t then scaled a l else Some zero_ℚ) ≡ Some c
        → Between (if s then u else l) (if t then l else u) x → (if s then scaled a u else if t then scaled a l else Some zero_ℚ) ≡ Some (a *ℚ x)
    by true true e f q b = absurd (<ℚ-not (lt_true _ _ e) (<ℚ-≤ℚ (lt_true _ _ f)))
    by true false e f q b = scaled_at a x c u q b
    by false true e f q b = scaled_at a x c l q b
    by false false e f q b = no_term a x (lt_false _ _ f) (lt_false _ _ e)

greatest_within : (a x c : Number) (l u : Option Number) → least_term a u l ≡ Some c → (a ≢ zero_ℚ → AreCrossed l u → ⊥)
    → Between (if lt_ℚ zero_ℚ a then u else l) (if lt_ℚ a zero_ℚ then l else u) x → Between l u x
unfolding least_term
greatest_within a x c l u = by (lt_ℚ zero_ℚ a) (lt_ℚ a zero_ℚ) refl refl
  where
    by : (s t : Bool) → lt_ℚ zero_ℚ a ≡ s → lt_ℚ a zero_ℚ ≡ t → (if s then scaled a u else if t then scaled a l else Some zero_ℚ) ≡ Some c → (a ≢ zero_ℚ → AreCrossed l u → ⊥)
        → Between (if s then u else l) (if t then l else u) x → Between l u x
    by true true e f q n b = absurd (<ℚ-not (lt_true _ _ e) (<ℚ-≤ℚ (lt_true _ _ f)))
    by true false e f q n b = record { low = at_upper_end l x (subst (λ o. AreCrossed l o → ⊥) (pinned a x c u q b) (n (<ℚ-≢ (lt_true _ _ e)))); high = b.high }
    by false true e f q n b = record { low = b.low; high = at_lower_end u x (subst (λ o. AreCrossed o u → ⊥) (pinned a x c l q b) (n (<ℚ-≢' (lt_true _ _ f)))) }
    by false false e f q n b = b

-- and where both are the end of the least
least_term_at : (a x c : Number) (l u : Option Number) → least_term a l u ≡ Some c → Between (if lt_ℚ a zero_ℚ then u else l) (if lt_ℚ zero_ℚ a then l else u) x → least_term a l u ≡ Some (a *ℚ x)
unfolding least_term
least_term_at a x c l u = by (lt_ℚ zero_ℚ a) (lt_ℚ a zero_ℚ) refl refl
  where
    by : (s t : Bool) → lt_ℚ zero_ℚ a ≡ s → lt_ℚ a zero_ℚ ≡ t → (if s then scaled a l else if t then scaled a u else Some zero_ℚ) ≡ Some c
        → Between (if t then u else l) (if s then l else u) x → (if s then scaled a l else if t then scaled a u else Some zero_ℚ) ≡ Some (a *ℚ x)
    by true true e f q b = absurd (<ℚ-not (lt_true _ _ e) (<ℚ-≤ℚ (lt_true _ _ f)))
    by true false e f q b = scaled_at a x c l q b
    by false true e f q b = scaled_at a x c u q b
    by false false e f q b = no_term a x (lt_false _ _ f) (lt_false _ _ e)

least_within : (a x c : Number) (l u : Option Number) → least_term a l u ≡ Some c → (a ≢ zero_ℚ → AreCrossed l u → ⊥)
    → Between (if lt_ℚ a zero_ℚ then u else l) (if lt_ℚ zero_ℚ a then l else u) x → Between l u x
unfolding least_term
least_within a x c l u = by (lt_ℚ zero_ℚ a) (lt_ℚ a zero_ℚ) refl refl
  where
    by : (s t : Bool) → lt_ℚ zero_ℚ a ≡ s → lt_ℚ a zero_ℚ ≡ t → (if s then scaled a l else if t then scaled a u else Some zero_ℚ) ≡ Some c → (a ≢ zero_ℚ → AreCrossed l u → ⊥)
        → Between (if t then u else l) (if s then l else u) x → Between l u x
    by true true e f q n b = absurd (<ℚ-not (lt_true _ _ e) (<ℚ-≤ℚ (lt_true _ _ f)))
    by true false e f q n b = record { low = b.low; high = at_lower_end u x (subst (λ o. AreCrossed o u → ⊥) (pinned a x c l q b) (n (<ℚ-≢ (lt_true _ _ e)))) }
    by false true e f q n b = record { low = at_upper_end l x (subst (λ o. AreCrossed l o → ⊥) (pinned a x c u q b) (n (<ℚ-≢' (lt_true _ _ f)))); high = b.high }
    by false false e f q n b = b

-- ---- ratios
greatest_ratio_from_zero : (n : ℕ) (z a : Vector) → zero_ℚ ≤ℚ greatest_ratio n z a
unfolding greatest_ratio
greatest_ratio_from_zero zero z a = ≤ℚ_refl zero_ℚ
greatest_ratio_from_zero (suc n) z a = ≤ℚ_trans (greatest_ratio_from_zero n z a) (≤ℚ-max_ℚ_left (greatest_ratio n z a) (z n /ℚ a n))

greatest_ratio_above : (n : ℕ) (z a : Vector) (k : ℕ) → k < n → (z k /ℚ a k) ≤ℚ greatest_ratio n z a
unfolding greatest_ratio
greatest_ratio_above zero z a k l = absurd (omega arith)
greatest_ratio_above (suc n) z a k l = elim (cases_eq k n) [
  | inl m ↦ rw m (≤ℚ-max_ℚ_right (greatest_ratio n z a) (z n /ℚ a n))
  | inr m ↦ ≤ℚ_trans (greatest_ratio_above n z a k (omega arith)) (≤ℚ-max_ℚ_left (greatest_ratio n z a) (z n /ℚ a n))
]

least_ratio_to_zero : (n : ℕ) (z a : Vector) → least_ratio n z a ≤ℚ zero_ℚ
unfolding least_ratio
least_ratio_to_zero zero z a = ≤ℚ_refl zero_ℚ
least_ratio_to_zero (suc n) z a = ≤ℚ_trans (min_ℚ-≤_left (least_ratio n z a) (z n /ℚ a n)) (least_ratio_to_zero n z a)

least_ratio_below : (n : ℕ) (z a : Vector) (k : ℕ) → k < n → least_ratio n z a ≤ℚ (z k /ℚ a k)
unfolding least_ratio
least_ratio_below zero z a k l = absurd (omega arith)
least_ratio_below (suc n) z a k l = elim (cases_eq k n) [
  | inl m ↦ rw m (min_ℚ-≤_right (least_ratio n z a) (z n /ℚ a n))
  | inr m ↦ ≤ℚ_trans (min_ℚ-≤_left (least_ratio n z a) (z n /ℚ a n)) (least_ratio_below n z a k (omega arith))
]

greatest_ratio_one : (n : ℕ) (z a : Vector) → (greatest_ratio n z a ≡ zero_ℚ) ⊎ ((k : ℕ) × (k < n) × (greatest_ratio n z a ≡ z k /ℚ a k))
unfolding greatest_ratio
greatest_ratio_one zero z a = inl refl
greatest_ratio_one (suc n) z a = elim (max_ℚ_one (greatest_ratio n z a) (z n /ℚ a n)) [
  | inr e ↦ inr (n, omega arith, e)
  | inl e ↦ elim (greatest_ratio_one n z a) [ inl f ↦ inl (e ∙ f) | inr f ↦ inr (f.0, omega (arith, f.1), e ∙ f.2) ]
]

pub greatest_ratio_is : (n : ℕ) (z a : Vector) → IsGreatestRatio n z a (greatest_ratio n z a)
greatest_ratio_is n z a = record { zero = greatest_ratio_from_zero n z a; each = greatest_ratio_above n z a; one = greatest_ratio_one n z a }

least_ratio_one : (n : ℕ) (z a : Vector) → (least_ratio n z a ≡ zero_ℚ) ⊎ ((k : ℕ) × (k < n) × (least_ratio n z a ≡ z k /ℚ a k))
unfolding least_ratio
least_ratio_one zero z a = inl refl
least_ratio_one (suc n) z a = elim (min_ℚ_one (least_ratio n z a) (z n /ℚ a n)) [
  | inr e ↦ inr (n, omega arith, e)
  | inl e ↦ elim (least_ratio_one n z a) [ inl f ↦ inl (e ∙ f) | inr f ↦ inr (f.0, omega (arith, f.1), e ∙ f.2) ]
]

pub least_ratio_is : (n : ℕ) (z a : Vector) → IsLeastRatio n z a (least_ratio n z a)
least_ratio_is n z a = record { zero = least_ratio_to_zero n z a; each = least_ratio_below n z a; one = least_ratio_one n z a }

-- what is left of z by a t, where t is at least or at most the ratio z / a
left_down : (z a t : Number) → zero_ℚ <ℚ a → (z /ℚ a) ≤ℚ t → (z -ℚ a *ℚ t) ≤ℚ zero_ℚ
left_down z a t p h = linear (z ∷ (a *ℚ t) ∷ []) (fact 1 (v 0) (v 1) ∷ []) 0 (v 0 :- v 1) (num (pos 0)) (subst (λ c. c ≤ℚ (a *ℚ t)) (over-times a z (<ℚ-≢ p)) (≤ℚ-*ℚ a (<ℚ-≤ℚ p) h), tt) refl

left_up : (z a t : Number) → a <ℚ zero_ℚ → (z /ℚ a) ≤ℚ t → zero_ℚ ≤ℚ (z -ℚ a *ℚ t)
left_up z a t p h = linear (z ∷ (a *ℚ t) ∷ []) (fact 1 (v 1) (v 0) ∷ []) 0 (num (pos 0)) (v 0 :- v 1) (subst (λ c. (a *ℚ t) ≤ℚ c) (over-times a z (<ℚ-≢' p)) (≤ℚ-*ℚ_down a (<ℚ-≤ℚ p) h), tt) refl

left_up' : (z a t : Number) → zero_ℚ <ℚ a → t ≤ℚ (z /ℚ a) → zero_ℚ ≤ℚ (z -ℚ a *ℚ t)
left_up' z a t p h = linear (z ∷ (a *ℚ t) ∷ []) (fact 1 (v 1) (v 0) ∷ []) 0 (num (pos 0)) (v 0 :- v 1) (subst (λ c. (a *ℚ t) ≤ℚ c) (over-times a z (<ℚ-≢ p)) (≤ℚ-*ℚ a (<ℚ-≤ℚ p) h), tt) refl

left_down' : (z a t : Number) → a <ℚ zero_ℚ → t ≤ℚ (z /ℚ a) → (z -ℚ a *ℚ t) ≤ℚ zero_ℚ
left_down' z a t p h = linear (z ∷ (a *ℚ t) ∷ []) (fact 1 (v 0) (v 1) ∷ []) 0 (v 0 :- v 1) (num (pos 0)) (subst (λ c. c ≤ℚ (a *ℚ t)) (over-times a z (<ℚ-≢' p)) (≤ℚ-*ℚ_down a (<ℚ-≤ℚ p) h), tt) refl

-- nothing is taken where the entry is 0
left_same : (z a t : Number) → zero_ℚ ≤ℚ a → a ≤ℚ zero_ℚ → z -ℚ a *ℚ t ≡ z
left_same z a t p q = ap (λ c. z -ℚ c *ℚ t) (≤ℚ_antisym q p) ∙ ring rational (z ∷ t ∷ []) (v 0 :- num (pos 0) :* v 1) (v 0) refl

-- a choice by a test that fails
not_chosen : (p q : Number) (a b : Option Number) → q ≤ℚ p → (if lt_ℚ p q then a else b) ≡ b
not_chosen p q a b h = by (lt_ℚ p q) refl
  where
    by : (t : Bool) → lt_ℚ p q ≡ t → (if t then a else b) ≡ b
    by true e = absurd (<ℚ-not (lt_true _ _ e) h)
    by false e = refl

-- ---- the lower side, which the greatest activity reaches
module _ (M : LinearProgram) (i : ℕ) (d : IsForcedAtLowerSide M i) where
  -- the program with the row
  abbrev held_low : LinearProgram
  held_low = bounded M (lower_at_greatest M i) (upper_at_greatest M i)

  -- each feasible point reaches the side
  reaches_low : (x : Vector) → Feasible M x → greatest M i ≡ Some (value_at M i x)
  reaches_low x h = d.reach ∙ ap Some (≤ℚ_antisym (subst (λ o. AtLeast o (value_at M i x)) d.side (h.rows i d.row).low) (subst (λ o. AtMost o (value_at M i x)) d.reach (greatest-value M i x h.columns)))

  at_end_low : (x : Vector) → Feasible M x → (k : ℕ) → k < M.columns → IsAtGreatestEnd M i x k
  at_end_low x h = greatest_reached M i x h.columns (reaches_low x h)

  held_in_low : (x : Vector) → Feasible M x → (k : ℕ) → k < M.columns → Between (lower_at_greatest M i k) (upper_at_greatest M i k) (x k)
  held_in_low x h k l = record { low = by_low (lt_ℚ zero_ℚ (M.coefficient i k)) refl; high = by_high (lt_ℚ (M.coefficient i k) zero_ℚ) refl }
    where
      by_low : (s : Bool) → lt_ℚ zero_ℚ (M.coefficient i k) ≡ s → AtLeast (if s then M.upper_bound k else M.lower_bound k) (x k)
      by_low true e = subst (λ o. AtLeast o (x k)) (sym ((at_end_low x h k l).high (lt_true _ _ e))) (≤ℚ_refl (x k))
      by_low false e = (h.columns k l).low

      by_high : (s : Bool) → lt_ℚ (M.coefficient i k) zero_ℚ ≡ s → AtMost (if s then M.lower_bound k else M.upper_bound k) (x k)
      by_high true e = subst (λ o. AtMost o (x k)) (sym ((at_end_low x h k l).low (lt_true _ _ e))) (≤ℚ_refl (x k))
      by_high false e = (h.columns k l).high

  -- a point at these ends gives the row the value of its side
  value_held_low : (x : Vector) → ((k : ℕ) → k < M.columns → Between (lower_at_greatest M i k) (upper_at_greatest M i k) (x k)) → value_at M i x ≡ d.number
  value_held_low x b = some_inj (sym (total_ends-is M.columns (greatest_terms M i) (λ k. M.coefficient i k *ℚ x k)
      (λ k l. let c = parts_finite M.columns (greatest_terms M i) d.number d.reach k l in greatest_term_at (M.coefficient i k) (x k) c.0 (M.lower_bound k) (M.upper_bound k) c.1 (b k l))) ∙ d.reach)

  held_within_low : (x : Vector) → ((k : ℕ) → k < M.columns → Between (lower_at_greatest M i k) (upper_at_greatest M i k) (x k)) → (k : ℕ) → k < M.columns → Between (M.lower_bound k) (M.upper_bound k) (x k)
  held_within_low x b k l = let c = parts_finite M.columns (greatest_terms M i) d.number d.reach k l in
      greatest_within (M.coefficient i k) (x k) c.0 (M.lower_bound k) (M.upper_bound k) c.1 (d.uncrossed.bounds k l) (b k l)

  held_first_low : (s : Sense) → Reduces s M held_low (λ x. x) zero_ℚ
  held_first_low s = same_points s M held_low (λ x. refl)
      (λ x h. record { rows = h.rows; columns = held_within_low x h.columns; whole = h.whole; gaps = h.gaps })
      (λ x h. record { rows = h.rows; columns = held_in_low x h; whole = h.whole; gaps = h.gaps })

  side_kept_low : (x : Vector) → value_at M i x ≡ d.number → Between (M.lower_side i) (M.upper_side i) (value_at M i x)
  side_kept_low x e = record { low = subst (λ o. AtLeast o (value_at M i x)) (sym d.side) (≤ℚ-same (sym e)); high = subst (AtMost (M.upper_side i)) (sym e) (at_lower_end (M.upper_side i) d.number (subst (λ o. AreCrossed o (M.upper_side i) → ⊥) d.side d.uncrossed.sides)) }

  dropped_then_low : (s : Sense) → Reduces s held_low (forced_at_lower_side M i) (λ x. x) zero_ℚ
  dropped_then_low s = redundant_row s held_low i (λ x h. side_kept_low x (value_held_low x h.columns))

  pub forced_at_lower_side_keeps : (s : Sense) → Reduces s M (forced_at_lower_side M i) (λ x. x) zero_ℚ
  forced_at_lower_side_keeps s = compose_same s M held_low (forced_at_lower_side M i) (held_first_low s) (dropped_then_low s)

  -- what is left of a reduced cost sits at the end where the column is
  left_low : (p : Priced) → Carries held_low (undo_row i p) → Feasible M p.x → (t : Number) → ((k : ℕ) → k < M.columns → (p.z k /ℚ M.coefficient i k) ≤ℚ t) → (k : ℕ) → k < M.columns
      → (zero_ℚ <ℚ (p.z k -ℚ M.coefficient i k *ℚ t) → M.lower_bound k ≡ Some (p.x k)) × ((p.z k -ℚ M.coefficient i k *ℚ t) <ℚ zero_ℚ → M.upper_bound k ≡ Some (p.x k))
  left_low p h f t r k l = elim (≤ℚ_cases (M.coefficient i k) zero_ℚ) [
    | inr up ↦ ((λ q. absurd (<ℚ-not q (left_down (p.z k) (M.coefficient i k) t up (r k l)))), λ q. (at_end_low p.x f k l).high up)
    | inl down ↦ elim (≤ℚ_cases zero_ℚ (M.coefficient i k)) [
      | inr low ↦ ((λ q. (at_end_low p.x f k l).low low), λ q. absurd (<ℚ-not q (left_up (p.z k) (M.coefficient i k) t low (r k l))))
      | inl up ↦ (
        λ q. sym (not_chosen _ _ (M.upper_bound k) (M.lower_bound k) down) ∙ h.at_low k l (subst (λ c. zero_ℚ <ℚ c) (left_same (p.z k) (M.coefficient i k) t up down) q),
        λ q. sym (not_chosen _ _ (M.lower_bound k) (M.upper_bound k) up) ∙ h.at_high k l (subst (λ c. c <ℚ zero_ℚ) (left_same (p.z k) (M.coefficient i k) t up down) q),
      )
    ]
  ]

  undone_low : (p : Priced) → Carries (forced_at_lower_side M i) p → Carries M (undo_forced_at_lower_side M.columns i (M.coefficient i) p)
  undone_low p c =
      let h : Carries held_low (undo_row i p) = (row_pairs held_low i (dropped_then_low Min).lifts).carries p c in
      let f : Feasible M p.x = (held_first_low Min).lifts p.x h.feasible in
      let t : Number = greatest_ratio M.columns p.z (M.coefficient i) in
      let e : M.lower_side i ≡ Some (value_at M i p.x) = d.side ∙ ap Some (sym (value_held_low p.x h.feasible.columns)) in
      let a = left_low p h f t (greatest_ratio_above M.columns p.z (M.coefficient i)) in
      subst (λ (y : Vector). Carries M (record { x = p.x; y = y; z = λ k. p.z k -ℚ M.coefficient i k *ℚ t })) (set_from_zero p.y i t)
      (transfer M (lower_at_greatest M i) (upper_at_greatest M i) i t (undo_row i p) d.row h f (λ q. e) (λ q. absurd (<ℚ-not q (greatest_ratio_from_zero M.columns p.z (M.coefficient i)))) (λ k l. (a k l).0) (λ k l. (a k l).1))

  pub forced_at_lower_side_keeps_pairs : ReducesPairs Min M (forced_at_lower_side M i) (undo_forced_at_lower_side M.columns i (M.coefficient i))
  forced_at_lower_side_keeps_pairs = pairs_of M (forced_at_lower_side M i) _ (record { carries = undone_low })

-- ---- the upper side, which the least activity reaches
module _ (M : LinearProgram) (i : ℕ) (d : IsForcedAtUpperSide M i) where
  -- the program with the row
  abbrev held_high : LinearProgram
  held_high = bounded M (lower_at_least M i) (upper_at_least M i)

  -- each feasible point reaches the side
  reaches_high : (x : Vector) → Feasible M x → least M i ≡ Some (value_at M i x)
  reaches_high x h = d.reach ∙ ap Some (≤ℚ_antisym (subst (λ o. AtLeast o (value_at M i x)) d.reach (least-value M i x h.columns)) (subst (λ o. AtMost o (value_at M i x)) d.side (h.rows i d.row).high))

  at_end_high : (x : Vector) → Feasible M x → (k : ℕ) → k < M.columns → IsAtLeastEnd M i x k
  at_end_high x h = least_reached M i x h.columns (reaches_high x h)

  held_in_high : (x : Vector) → Feasible M x → (k : ℕ) → k < M.columns → Between (lower_at_least M i k) (upper_at_least M i k) (x k)
  held_in_high x h k l = record { low = by_low (lt_ℚ (M.coefficient i k) zero_ℚ) refl; high = by_high (lt_ℚ zero_ℚ (M.coefficient i k)) refl }
    where
      by_low : (s : Bool) → lt_ℚ (M.coefficient i k) zero_ℚ ≡ s → AtLeast (if s then M.upper_bound k else M.lower_bound k) (x k)
      by_low true e = subst (λ o. AtLeast o (x k)) (sym ((at_end_high x h k l).high (lt_true _ _ e))) (≤ℚ_refl (x k))
      by_low false e = (h.columns k l).low

      by_high : (s : Bool) → lt_ℚ zero_ℚ (M.coefficient i k) ≡ s → AtMost (if s then M.lower_bound k else M.upper_bound k) (x k)
      by_high true e = subst (λ o. AtMost o (x k)) (sym ((at_end_high x h k l).low (lt_true _ _ e))) (≤ℚ_refl (x k))
      by_high false e = (h.columns k l).high

  -- a point at these ends gives the row the value of its side
  value_held_high : (x : Vector) → ((k : ℕ) → k < M.columns → Between (lower_at_least M i k) (upper_at_least M i k) (x k)) → value_at M i x ≡ d.number
  value_held_high x b = some_inj (sym (total_ends-is M.columns (least_terms M i) (λ k. M.coefficient i k *ℚ x k)
      (λ k l. let c = parts_finite M.columns (least_terms M i) d.number d.reach k l in least_term_at (M.coefficient i k) (x k) c.0 (M.lower_bound k) (M.upper_bound k) c.1 (b k l))) ∙ d.reach)

  held_within_high : (x : Vector) → ((k : ℕ) → k < M.columns → Between (lower_at_least M i k) (upper_at_least M i k) (x k)) → (k : ℕ) → k < M.columns → Between (M.lower_bound k) (M.upper_bound k) (x k)
  held_within_high x b k l = let c = parts_finite M.columns (least_terms M i) d.number d.reach k l in
      least_within (M.coefficient i k) (x k) c.0 (M.lower_bound k) (M.upper_bound k) c.1 (d.uncrossed.bounds k l) (b k l)

  held_first_high : (s : Sense) → Reduces s M held_high (λ x. x) zero_ℚ
  held_first_high s = same_points s M held_high (λ x. refl)
      (λ x h. record { rows = h.rows; columns = held_within_high x h.columns; whole = h.whole; gaps = h.gaps })
      (λ x h. record { rows = h.rows; columns = held_in_high x h; whole = h.whole; gaps = h.gaps })

  side_kept_high : (x : Vector) → value_at M i x ≡ d.number → Between (M.lower_side i) (M.upper_side i) (value_at M i x)
  side_kept_high x e = record { low = subst (AtLeast (M.lower_side i)) (sym e) (at_upper_end (M.lower_side i) d.number (subst (λ o. AreCrossed (M.lower_side i) o → ⊥) d.side d.uncrossed.sides)); high = subst (λ o. AtMost o (value_at M i x)) (sym d.side) (≤ℚ-same e) }

  dropped_then_high : (s : Sense) → Reduces s held_high (forced_at_upper_side M i) (λ x. x) zero_ℚ
  dropped_then_high s = redundant_row s held_high i (λ x h. side_kept_high x (value_held_high x h.columns))

  pub forced_at_upper_side_keeps : (s : Sense) → Reduces s M (forced_at_upper_side M i) (λ x. x) zero_ℚ
  forced_at_upper_side_keeps s = compose_same s M held_high (forced_at_upper_side M i) (held_first_high s) (dropped_then_high s)

  -- what is left of a reduced cost sits at the end where the column is
  left_high : (p : Priced) → Carries held_high (undo_row i p) → Feasible M p.x → (t : Number) → ((k : ℕ) → k < M.columns → t ≤ℚ (p.z k /ℚ M.coefficient i k)) → (k : ℕ) → k < M.columns
      → (zero_ℚ <ℚ (p.z k -ℚ M.coefficient i k *ℚ t) → M.lower_bound k ≡ Some (p.x k)) × ((p.z k -ℚ M.coefficient i k *ℚ t) <ℚ zero_ℚ → M.upper_bound k ≡ Some (p.x k))
  left_high p h f t r k l = elim (≤ℚ_cases (M.coefficient i k) zero_ℚ) [
    | inr up ↦ ((λ q. (at_end_high p.x f k l).low up), λ q. absurd (<ℚ-not q (left_up' (p.z k) (M.coefficient i k) t up (r k l))))
    | inl down ↦ elim (≤ℚ_cases zero_ℚ (M.coefficient i k)) [
      | inr low ↦ ((λ q. absurd (<ℚ-not q (left_down' (p.z k) (M.coefficient i k) t low (r k l)))), λ q. (at_end_high p.x f k l).high low)
      | inl up ↦ (
        λ q. sym (not_chosen _ _ (M.upper_bound k) (M.lower_bound k) up) ∙ h.at_low k l (subst (λ c. zero_ℚ <ℚ c) (left_same (p.z k) (M.coefficient i k) t up down) q),
        λ q. sym (not_chosen _ _ (M.lower_bound k) (M.upper_bound k) down) ∙ h.at_high k l (subst (λ c. c <ℚ zero_ℚ) (left_same (p.z k) (M.coefficient i k) t up down) q),
      )
    ]
  ]

  undone_high : (p : Priced) → Carries (forced_at_upper_side M i) p → Carries M (undo_forced_at_upper_side M.columns i (M.coefficient i) p)
  undone_high p c =
      let h : Carries held_high (undo_row i p) = (row_pairs held_high i (dropped_then_high Min).lifts).carries p c in
      let f : Feasible M p.x = (held_first_high Min).lifts p.x h.feasible in
      let t : Number = least_ratio M.columns p.z (M.coefficient i) in
      let e : M.upper_side i ≡ Some (value_at M i p.x) = d.side ∙ ap Some (sym (value_held_high p.x h.feasible.columns)) in
      let a = left_high p h f t (least_ratio_below M.columns p.z (M.coefficient i)) in
      subst (λ (y : Vector). Carries M (record { x = p.x; y = y; z = λ k. p.z k -ℚ M.coefficient i k *ℚ t })) (set_from_zero p.y i t)
      (transfer M (lower_at_least M i) (upper_at_least M i) i t (undo_row i p) d.row h f (λ q. absurd (<ℚ-not q (least_ratio_to_zero M.columns p.z (M.coefficient i)))) (λ q. e) (λ k l. (a k l).0) (λ k l. (a k l).1))

  pub forced_at_upper_side_keeps_pairs : ReducesPairs Min M (forced_at_upper_side M i) (undo_forced_at_upper_side M.columns i (M.coefficient i))
  forced_at_upper_side_keeps_pairs = pairs_of M (forced_at_upper_side M i) _ (record { carries = undone_high })
