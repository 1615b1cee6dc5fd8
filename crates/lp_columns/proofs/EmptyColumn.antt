-- A column without entries.
use Rattle.std.proofs.Common.{◌≡◌, ℕ, pos, sym, refl, ap, ◌∙◌, [], ◌∷◌, inl, inr, subst, Option, Some, None, Bool, true, false}
use Rattle.std.specs.Prelude.{if◌then◌else◌}
use Rattle.fractions.specs.Ring.{ring, v, num, ◌:+◌, ◌:-◌, ◌:*◌}
use Rattle.fractions.specs.Number.{Number, rational, zero_ℚ, ◌+ℚ◌, ◌-ℚ◌, ◌*ℚ◌}
use Rattle.fractions.specs.Order.{◌≤ℚ◌, ◌<ℚ◌, ≤ℚ_antisym, ≤ℚ-by, ≤ℚ-*ℚ, ≤ℚ_cases, <ℚ-≤ℚ, <ℚ-not}
use Rattle.fractions.specs.Compare.{lt_ℚ}
use Rattle.fractions.specs.Ends.{AtLeast, AtMost, Between}
use Rattle.fractions.specs.Signs.{≤ℚ-same, ≤ℚ-*ℚ_down}
use Rattle.lp_model.specs.declared.program.Sense.TheVariants.{Min}
use Rattle.lp_model.specs.LinearProgram.{LinearProgram}
use Rattle.lp_model.specs.Reductions.{Reduces, ReducesPairs}
use Rattle.lp_theory.proofs.ActivityLaws.{lt_true}
use Rattle.lp_columns.specs.EmptyColumn.{any_between, resting_place, IsEmptyColumn, empty_column_fixed}
use Rattle.lp_columns.specs.BestPlace.{IsBestAt}
use Rattle.lp_columns.proofs.BestPlace.{best_reduces, best_pairs}
use Rattle.lp_columns.proofs.Held.{Apart, apart_low, apart_high}
use Rattle.lp_theory.proofs.MetEndLaws.{lt_is}

lt_not : (p q : Number) → q ≤ℚ p → lt_ℚ p q ≡ false
lt_not p q h = by (lt_ℚ p q) refl
  where
    by : (t : Bool) → lt_ℚ p q ≡ t → t ≡ false
    by true e = absurd (<ℚ-not (lt_true p q e) h)
    by false e = refl

at_lower : (c w : Number) (l u : Option Number) → zero_ℚ <ℚ c → resting_place c l u ≡ Some w → l ≡ Some w
at_lower c w l u h e = rw (lt_is zero_ℚ c h) at e

at_upper : (c w : Number) (l u : Option Number) → c <ℚ zero_ℚ → resting_place c l u ≡ Some w → u ≡ Some w
at_upper c w l u h e = rw (lt_not zero_ℚ c (<ℚ-≤ℚ h), lt_is c zero_ℚ h) at e

any_in : (l u : Option Number) (w : Number) → Apart l u → any_between l u ≡ Some w → Between l u w
any_in None None w p e = record { low = tt; high = tt }
any_in None (Some b) w p e = apart_high None (Some b) w p e
any_in (Some a) u w p e = apart_low (Some a) u w p e

pub rests_between : (c w : Number) (l u : Option Number) → Apart l u → resting_place c l u ≡ Some w → Between l u w
rests_between c w l u p = by (lt_ℚ zero_ℚ c) (lt_ℚ c zero_ℚ)
  where
    by : (s t : Bool) → (if s then l else if t then u else any_between l u) ≡ Some w → Between l u w
    by true t e = apart_low l u w p e
    by false true e = apart_high l u w p e
    by false false e = any_in l u w p e

-- no number between the ends costs less
pub rests_best : (c w x : Number) (l u : Option Number) → resting_place c l u ≡ Some w → Between l u x → (c *ℚ (w -ℚ x)) ≤ℚ zero_ℚ
rests_best c w x l u e b = elim (≤ℚ_cases c zero_ℚ) [
  | inr h ↦ ≤ℚ-by (c *ℚ w) (c *ℚ x) (c *ℚ (w -ℚ x)) zero_ℚ (ring rational (c ∷ w ∷ x ∷ []) (v 0 :* v 2 :- v 0 :* v 1) (num (pos 0) :- v 0 :* (v 1 :- v 2)) refl)
      (≤ℚ-*ℚ c (<ℚ-≤ℚ h) (subst (λ o. AtLeast o x) (at_lower c w l u h e) b.low))
  | inl h ↦ elim (≤ℚ_cases zero_ℚ c) [
    | inr k ↦ ≤ℚ-by (c *ℚ w) (c *ℚ x) (c *ℚ (w -ℚ x)) zero_ℚ (ring rational (c ∷ w ∷ x ∷ []) (v 0 :* v 2 :- v 0 :* v 1) (num (pos 0) :- v 0 :* (v 1 :- v 2)) refl)
        (≤ℚ-*ℚ_down c h (subst (λ o. AtMost o x) (at_upper c w l u k e) b.high))
    | inl k ↦ ≤ℚ-same (ap (λ a. a *ℚ (w -ℚ x)) (≤ℚ_antisym h k) ∙ ring rational ((w -ℚ x) ∷ []) (num (pos 0) :* v 0) (num (pos 0)) refl)
  ]
]

-- its place is its best one
best : (M : LinearProgram) (j : ℕ) (b : Number) → IsEmptyColumn M j b → IsBestAt M j b
best M j b f = record {
  column = f.column;
  within = rests_between (M.costs j) b (M.lower_bound j) (M.upper_bound j) f.apart f.place;
  whole = f.whole;
  solid = f.solid;
  cheap = λ x h. rests_best (M.costs j) b x (M.lower_bound j) (M.upper_bound j) f.place h;
  rows = λ i l x y h g. subst (Between (M.lower_side i) (M.upper_side i)) (sym (ap (λ a. y +ℚ a *ℚ (b -ℚ x)) (f.empty i l) ∙ ring rational (y ∷ (b -ℚ x) ∷ []) (v 0 :+ num (pos 0) :* v 1) (v 0) refl)) g;
}

pub empty_column : (M : LinearProgram) (j : ℕ) (b : Number) → IsEmptyColumn M j b → Reduces Min M (empty_column_fixed M j b) (λ x. x) zero_ℚ
empty_column M j b f = best_reduces M j b (best M j b f)

pub empty_column_pairs : (M : LinearProgram) (j : ℕ) (b : Number) → IsEmptyColumn M j b → ReducesPairs Min M (empty_column_fixed M j b) (λ p. p)
empty_column_pairs M j b f = best_pairs M j b (best M j b f)
