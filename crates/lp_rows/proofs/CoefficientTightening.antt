-- Coefficients of whole columns that shrink.
use Rattle.std.proofs.Common.{◌≡◌, ◌≢◌, ℕ, ◌<◌, ℤ, pos, ◌+ℤ◌, ◌≤ℤ◌, sym, refl, ap, ◌∙◌, arith, [], ◌∷◌, ◌⊎◌, inl, inr, subst, Bool, true, false, ◌↔◌}
use Rattle.std.specs.Prelude.{if◌then◌else◌}
use Rattle.std.proofs.lemmas.Int.{ints}
use Rattle.fractions.specs.Ring.{ring, v, num, ◌:+◌, ◌:-◌, ◌:*◌, inv}
use Rattle.fractions.specs.Number.{Number, rational, zero_ℚ, one_ℚ, neg_ℚ, of_ℤ, of_ℤ-+ℤ, ◌+ℚ◌, ◌-ℚ◌, ◌*ℚ◌}
use Rattle.fractions.specs.Order.{◌≤ℚ◌, ◌<ℚ◌, ≤ℚ_antisym, ≤ℚ-by, ≤ℚ-*ℚ, <ℚ-≤ℚ}
use Rattle.fractions.specs.Linear.{linear, fact}
use Rattle.fractions.specs.Compare.{lt_ℚ}
use Rattle.fractions.specs.Floor.{IsWhole}
use Rattle.fractions.specs.MinMax.{abs_ℚ}
use Rattle.fractions.specs.Total.{total, put}
use Rattle.fractions.specs.Ends.{AtLeast, AtMost, Between}
use Rattle.fractions.proofs.Floors.{of_ℤ-≤}
use Rattle.fractions.proofs.MinMaxLaws.{abs_ℚ-is, abs_ℚ-neg}
use Rattle.fractions.proofs.Totals.{put-same, put-other, at_or_off}
use Rattle.fractions.specs.Signs.{≤ℚ-same, ≤ℚ-*ℚ_down}
use Rattle.lp_model.specs.declared.program.Sense.{Sense}
use Rattle.lp_model.specs.Vectors.{Vector}
use Rattle.lp_model.specs.LinearProgram.{LinearProgram, value_at}
use Rattle.lp_model.specs.Reductions.{Reduces}
use Rattle.lp_theory.specs.Activities.{least_rest, greatest_rest, InBounds}
use Rattle.lp_theory.specs.Reached.{rest_at}
use Rattle.lp_theory.proofs.ActivityLaws.{lt_true, lt_false, value-rest, least_rest-value, greatest_rest-value, scaled-low_high}
use Rattle.lp_theory.proofs.Moves.{coefficient_moves}
use Rattle.lp_theory.proofs.Steps.{same_points}
use Rattle.lp_rows.specs.CoefficientTightening.{OneSide, Tightening, sign, lower_alone, upper_alone, greatest_rest_of, slack_of, shrunk, moved_side, slack_at, IsCoefficientTightening, new_coefficient, new_side, coefficient_tightened}
use Rattle.lp_rows.specs.CoefficientTightening.OneSide.{Lower, Upper}

-- ---- whole numbers within a whole bound are at it or 1 away
step : (a b : ℤ) → (a ≤ℤ b) ⊎ ((b +ℤ pos 1) ≤ℤ a)
step a b = grind (arith, ints)

whole_step : {p q : Number} → IsWhole p → IsWhole q → (p ≤ℚ q) ⊎ ((q +ℚ one_ℚ) ≤ℚ p)
whole_step {p} {q} a b = elim (step a.whole b.whole) [
  | inl h ↦ inl (subst (λ c. c ≤ℚ q) (sym a.same) (subst (λ c. of_ℤ a.whole ≤ℚ c) (sym b.same) ((of_ℤ-≤ a.whole b.whole).1 h)))
  | inr h ↦ inr (subst (λ c. (q +ℚ one_ℚ) ≤ℚ c) (sym a.same) (subst (λ c. (c +ℚ one_ℚ) ≤ℚ of_ℤ a.whole) (sym b.same) (subst (λ c. c ≤ℚ of_ℤ a.whole) (of_ℤ-+ℤ b.whole (pos 1)) ((of_ℤ-≤ (b.whole +ℤ pos 1) a.whole).1 h))))
]

at_or_below : (x u : Number) → IsWhole x → IsWhole u → x ≤ℚ u → (x ≡ u) ⊎ (x ≤ℚ (u -ℚ one_ℚ))
at_or_below x u a b h = elim (whole_step b a) [
  | inl k ↦ inl (≤ℚ_antisym h k)
  | inr k ↦ inr (≤ℚ-by (x +ℚ one_ℚ) u x (u -ℚ one_ℚ) (ring rational (x ∷ u ∷ []) (v 1 :- (v 0 :+ num (pos 1))) (v 1 :- num (pos 1) :- v 0) refl) k)
]

at_or_above : (x l : Number) → IsWhole x → IsWhole l → l ≤ℚ x → (x ≡ l) ⊎ ((l +ℚ one_ℚ) ≤ℚ x)
at_or_above x l a b h = elim (whole_step a b) [ inl k ↦ inl (≤ℚ_antisym k h) | inr k ↦ inr k ]

-- ---- a row A x + r at most B, with r at most H
-- for A > 0: at u both say the same, and below it both hold
same_up : (A B D H u x r : Number) → D ≡ B -ℚ H -ℚ A *ℚ (u -ℚ one_ℚ) → zero_ℚ ≤ℚ D → zero_ℚ ≤ℚ A → zero_ℚ ≤ℚ (A -ℚ D) → r ≤ℚ H → (x ≡ u) ⊎ (x ≤ℚ (u -ℚ one_ℚ))
    → ((A *ℚ x +ℚ r) ≤ℚ B) ↔ (((A -ℚ D) *ℚ x +ℚ r) ≤ℚ (B -ℚ D *ℚ u))
same_up A B D H u x r e d a s h (inl at) = (
  λ k. ≤ℚ-by _ _ _ _ (ap (λ c. B -ℚ (A *ℚ c +ℚ r)) at ∙ same ∙ ap (λ c. B -ℚ D *ℚ u -ℚ ((A -ℚ D) *ℚ c +ℚ r)) (sym at)) k,
  λ k. ≤ℚ-by _ _ _ _ (ap (λ c. B -ℚ D *ℚ u -ℚ ((A -ℚ D) *ℚ c +ℚ r)) at ∙ sym same ∙ ap (λ c. B -ℚ (A *ℚ c +ℚ r)) (sym at)) k,
)
  where
    same : B -ℚ (A *ℚ u +ℚ r) ≡ B -ℚ D *ℚ u -ℚ ((A -ℚ D) *ℚ u +ℚ r)
    same = ring rational (A ∷ B ∷ D ∷ u ∷ r ∷ []) (v 1 :- (v 0 :* v 3 :+ v 4)) (v 1 :- v 2 :* v 3 :- ((v 0 :- v 2) :* v 3 :+ v 4)) refl
same_up A B D H u x r e d a s h (inr below) = (
  λ k. linear (((A -ℚ D) *ℚ x) ∷ ((A -ℚ D) *ℚ (u -ℚ one_ℚ)) ∷ r ∷ H ∷ (A *ℚ (u -ℚ one_ℚ)) ∷ (D *ℚ u) ∷ D ∷ B ∷ [])
      (fact 1 (v 0) (v 1) ∷ fact 1 (v 2) (v 3) ∷ fact 1 (v 1) (v 4 :- v 5 :+ v 6) ∷ fact 1 (v 6) (v 7 :- v 3 :- v 4) ∷ []) 0 (v 0 :+ v 2) (v 7 :- v 5)
      (≤ℚ-*ℚ (A -ℚ D) s below, (h, (≤ℚ-same (ring rational (A ∷ D ∷ u ∷ []) ((v 0 :- v 1) :* (v 2 :- num (pos 1))) (v 0 :* (v 2 :- num (pos 1)) :- v 1 :* v 2 :+ v 1) refl), (≤ℚ-same e, tt)))) refl,
  λ k. linear ((A *ℚ x) ∷ (A *ℚ (u -ℚ one_ℚ)) ∷ r ∷ H ∷ D ∷ B ∷ [])
      (fact 1 (v 0) (v 1) ∷ fact 1 (v 2) (v 3) ∷ fact 1 (v 4) (v 5 :- v 3 :- v 1) ∷ fact 1 (num (pos 0)) (v 4) ∷ []) 0 (v 0 :+ v 2) (v 5)
      (≤ℚ-*ℚ A a below, (h, (≤ℚ-same e, (d, tt)))) refl,
)

-- for A < 0: at l both say the same, and above it both hold
same_down : (A B D H l x r : Number) → D ≡ B -ℚ H -ℚ A *ℚ (l +ℚ one_ℚ) → zero_ℚ ≤ℚ D → A ≤ℚ zero_ℚ → (A +ℚ D) ≤ℚ zero_ℚ → r ≤ℚ H → (x ≡ l) ⊎ ((l +ℚ one_ℚ) ≤ℚ x)
    → ((A *ℚ x +ℚ r) ≤ℚ B) ↔ (((A +ℚ D) *ℚ x +ℚ r) ≤ℚ (B +ℚ D *ℚ l))
same_down A B D H l x r e d a s h (inl at) = (
  λ k. ≤ℚ-by _ _ _ _ (ap (λ c. B -ℚ (A *ℚ c +ℚ r)) at ∙ same ∙ ap (λ c. B +ℚ D *ℚ l -ℚ ((A +ℚ D) *ℚ c +ℚ r)) (sym at)) k,
  λ k. ≤ℚ-by _ _ _ _ (ap (λ c. B +ℚ D *ℚ l -ℚ ((A +ℚ D) *ℚ c +ℚ r)) at ∙ sym same ∙ ap (λ c. B -ℚ (A *ℚ c +ℚ r)) (sym at)) k,
)
  where
    same : B -ℚ (A *ℚ l +ℚ r) ≡ B +ℚ D *ℚ l -ℚ ((A +ℚ D) *ℚ l +ℚ r)
    same = ring rational (A ∷ B ∷ D ∷ l ∷ r ∷ []) (v 1 :- (v 0 :* v 3 :+ v 4)) (v 1 :+ v 2 :* v 3 :- ((v 0 :+ v 2) :* v 3 :+ v 4)) refl
same_down A B D H l x r e d a s h (inr above) = (
  λ k. linear (((A +ℚ D) *ℚ x) ∷ ((A +ℚ D) *ℚ (l +ℚ one_ℚ)) ∷ r ∷ H ∷ (A *ℚ (l +ℚ one_ℚ)) ∷ (D *ℚ l) ∷ D ∷ B ∷ [])
      (fact 1 (v 0) (v 1) ∷ fact 1 (v 2) (v 3) ∷ fact 1 (v 1) (v 4 :+ v 5 :+ v 6) ∷ fact 1 (v 6) (v 7 :- v 3 :- v 4) ∷ []) 0 (v 0 :+ v 2) (v 7 :+ v 5)
      (≤ℚ-*ℚ_down (A +ℚ D) s above, (h, (≤ℚ-same (ring rational (A ∷ D ∷ l ∷ []) ((v 0 :+ v 1) :* (v 2 :+ num (pos 1))) (v 0 :* (v 2 :+ num (pos 1)) :+ v 1 :* v 2 :+ v 1) refl), (≤ℚ-same e, tt)))) refl,
  λ k. linear ((A *ℚ x) ∷ (A *ℚ (l +ℚ one_ℚ)) ∷ r ∷ H ∷ D ∷ B ∷ [])
      (fact 1 (v 0) (v 1) ∷ fact 1 (v 2) (v 3) ∷ fact 1 (v 4) (v 5 :- v 3 :- v 1) ∷ fact 1 (num (pos 0)) (v 4) ∷ []) 0 (v 0 :+ v 2) (v 5)
      (≤ℚ-*ℚ_down A a above, (h, (≤ℚ-same e, (d, tt)))) refl,
)

same_row : (A B x r : Number) (t : Tightening) → IsWhole x → IsWhole t.lower → IsWhole t.upper → t.lower ≤ℚ x → x ≤ℚ t.upper → r ≤ℚ t.rest → zero_ℚ <ℚ slack_of A B t → slack_of A B t <ℚ abs_ℚ A
    → ((A *ℚ x +ℚ r) ≤ℚ B) ↔ ((shrunk A (slack_of A B t) *ℚ x +ℚ r) ≤ℚ moved_side A B t (slack_of A B t))
same_row A B x r t w wl wu low high h = by (lt_ℚ zero_ℚ A) refl
  where
    by : (s : Bool) → lt_ℚ zero_ℚ A ≡ s
        → zero_ℚ <ℚ (if s then B -ℚ t.rest -ℚ A *ℚ (t.upper -ℚ one_ℚ) else B -ℚ t.rest -ℚ A *ℚ (t.lower +ℚ one_ℚ))
        → (if s then B -ℚ t.rest -ℚ A *ℚ (t.upper -ℚ one_ℚ) else B -ℚ t.rest -ℚ A *ℚ (t.lower +ℚ one_ℚ)) <ℚ abs_ℚ A
        → ((A *ℚ x +ℚ r) ≤ℚ B) ↔ (((if s then A -ℚ (if s then B -ℚ t.rest -ℚ A *ℚ (t.upper -ℚ one_ℚ) else B -ℚ t.rest -ℚ A *ℚ (t.lower +ℚ one_ℚ)) else A +ℚ (if s then B -ℚ t.rest -ℚ A *ℚ (t.upper -ℚ one_ℚ) else B -ℚ t.rest -ℚ A *ℚ (t.lower +ℚ one_ℚ))) *ℚ x +ℚ r) ≤ℚ (if s then B -ℚ (if s then B -ℚ t.rest -ℚ A *ℚ (t.upper -ℚ one_ℚ) else B -ℚ t.rest -ℚ A *ℚ (t.lower +ℚ one_ℚ)) *ℚ t.upper else B +ℚ (if s then B -ℚ t.rest -ℚ A *ℚ (t.upper -ℚ one_ℚ) else B -ℚ t.rest -ℚ A *ℚ (t.lower +ℚ one_ℚ)) *ℚ t.lower))
    by true e p q =
        let a : zero_ℚ ≤ℚ A = <ℚ-≤ℚ (lt_true zero_ℚ A e) in
        let D : Number = B -ℚ t.rest -ℚ A *ℚ (t.upper -ℚ one_ℚ) in
        let k : D ≤ℚ A = subst (λ c. D ≤ℚ c) (abs_ℚ-is A a) (<ℚ-≤ℚ q) in
        same_up A B D t.rest t.upper x r refl (<ℚ-≤ℚ p) a (≤ℚ-by D A zero_ℚ (A -ℚ D) (ring rational (A ∷ D ∷ []) (v 0 :- v 1) (v 0 :- v 1 :- num (pos 0)) refl) k) h (at_or_below x t.upper w wu high)
    by false e p q =
        let a : A ≤ℚ zero_ℚ = lt_false zero_ℚ A e in
        let D : Number = B -ℚ t.rest -ℚ A *ℚ (t.lower +ℚ one_ℚ) in
        let k : D ≤ℚ neg_ℚ A = subst (λ c. D ≤ℚ c) (abs_ℚ-neg A a) (<ℚ-≤ℚ q) in
        same_down A B D t.rest t.lower x r refl (<ℚ-≤ℚ p) a (≤ℚ-by D (neg_ℚ A) (A +ℚ D) zero_ℚ (ring rational (A ∷ D ∷ []) (inv (v 0) :- v 1) (num (pos 0) :- (v 0 :+ v 1)) refl) k) h (at_or_above x t.lower w wl low)

-- ---- one side as an upper side of f times the row
as_upper : (f : OneSide) (b w : Number) → Between (lower_alone f b) (upper_alone f b) w ↔ ((sign f *ℚ w) ≤ℚ (sign f *ℚ b))
as_upper Lower b w = (
  λ h. ≤ℚ-by b w _ _ (ring rational (b ∷ w ∷ []) (v 1 :- v 0) (inv (num (pos 1)) :* v 0 :- inv (num (pos 1)) :* v 1) refl) h.low,
  λ h. record { low = ≤ℚ-by _ _ b w (ring rational (b ∷ w ∷ []) (inv (num (pos 1)) :* v 0 :- inv (num (pos 1)) :* v 1) (v 1 :- v 0) refl) h; high = tt },
)
as_upper Upper b w = (
  λ h. ≤ℚ-by w b _ _ (ring rational (b ∷ w ∷ []) (v 0 :- v 1) (num (pos 1) :* v 0 :- num (pos 1) :* v 1) refl) h.high,
  λ h. record { low = tt; high = ≤ℚ-by _ _ w b (ring rational (b ∷ w ∷ []) (num (pos 1) :* v 0 :- num (pos 1) :* v 1) (v 0 :- v 1) refl) h },
)

sign_twice : (f : OneSide) (q : Number) → sign f *ℚ (sign f *ℚ q) ≡ q
sign_twice Lower q = ring rational (q ∷ []) (inv (num (pos 1)) :* (inv (num (pos 1)) :* v 0)) (v 0) refl
sign_twice Upper q = ring rational (q ∷ []) (num (pos 1) :* (num (pos 1) :* v 0)) (v 0) refl

rest_reached : (f : OneSide) (M : LinearProgram) (i j : ℕ) (x : Vector) → InBounds M x → AtMost (greatest_rest_of f M i j) (sign f *ℚ rest_at M i j x)
rest_reached Lower M i j x b = scaled-low_high (neg_ℚ one_ℚ) (least_rest M i j) (rest_at M i j x) (linear [] [] 1 (inv (num (pos 1))) (num (pos 0)) tt refl) (least_rest-value M i j x b)
rest_reached Upper M i j x b = subst (AtMost (greatest_rest M i j)) (ring rational (rest_at M i j x ∷ []) (v 0) (num (pos 1) :* v 0) refl) (greatest_rest-value M i j x b)

-- ---- a row with another coefficient and other sides
module _ (M : LinearProgram) (i j : ℕ) (f : OneSide) (t : Tightening) (d : IsCoefficientTightening M i j f t) where
  abbrev R : LinearProgram
  R = coefficient_tightened M i j f t

  -- f times the row, by parts
  old_value : (x : Vector) → sign f *ℚ value_at M i x ≡ sign f *ℚ M.coefficient i j *ℚ x j +ℚ sign f *ℚ rest_at M i j x
  old_value x = ap (λ c. sign f *ℚ c) (value-rest M i j x d.column)
      ∙ ring rational (sign f ∷ M.coefficient i j ∷ x j ∷ rest_at M i j x ∷ []) (v 0 :* (v 1 :* v 2 :+ v 3)) (v 0 :* v 1 :* v 2 :+ v 0 :* v 3) refl

  abbrev S : Number
  S = shrunk (sign f *ℚ M.coefficient i j) (slack_at M i j f t)

  new_value : (x : Vector) → sign f *ℚ value_at R i x ≡ S *ℚ x j +ℚ sign f *ℚ rest_at M i j x
  new_value x =
      ap (λ c. sign f *ℚ c) (coefficient_moves M i j x (new_coefficient M i j f t) d.column ∙ ap (λ c. c +ℚ (new_coefficient M i j f t -ℚ M.coefficient i j) *ℚ x j) (value-rest M i j x d.column))
      ∙ ring rational (sign f ∷ M.coefficient i j ∷ x j ∷ rest_at M i j x ∷ new_coefficient M i j f t ∷ []) (v 0 :* (v 1 :* v 2 :+ v 3 :+ (v 4 :- v 1) :* v 2)) (v 0 :* v 4 :* v 2 :+ v 0 :* v 3) refl
      ∙ ap (λ c. c *ℚ x j +ℚ sign f *ℚ rest_at M i j x) (sign_twice f S)

  same_at_i : (x : Vector) → InBounds M x → IsWhole (x j)
      → Between (M.lower_side i) (M.upper_side i) (value_at M i x) ↔ Between (lower_alone f (new_side M i j f t)) (upper_alone f (new_side M i j f t)) (value_at R i x)
  same_at_i x b w =
      let low : t.lower ≤ℚ x j = subst (λ o. AtLeast o (x j)) d.lower (b j d.column).low in
      let high : x j ≤ℚ t.upper = subst (λ o. AtMost o (x j)) d.upper (b j d.column).high in
      let most : (sign f *ℚ rest_at M i j x) ≤ℚ t.rest = subst (λ o. AtMost o (sign f *ℚ rest_at M i j x)) d.rest (rest_reached f M i j x b) in
      let s = same_row (sign f *ℚ M.coefficient i j) (sign f *ℚ t.side) (x j) (sign f *ℚ rest_at M i j x) t w d.whole_lower d.whole_upper low high most d.positive d.short in
      let old = as_upper f t.side (value_at M i x) in
      let new = as_upper f (new_side M i j f t) (value_at R i x) in
      let m : sign f *ℚ new_side M i j f t ≡ moved_side (sign f *ℚ M.coefficient i j) (sign f *ℚ t.side) t (slack_at M i j f t) = sign_twice f _ in (
        λ h. new.1 (subst (λ c. c ≤ℚ (sign f *ℚ new_side M i j f t)) (sym (new_value x)) (subst (λ c. (S *ℚ x j +ℚ sign f *ℚ rest_at M i j x) ≤ℚ c) (sym m)
            (s.0 (subst (λ c. c ≤ℚ (sign f *ℚ t.side)) (old_value x) (old.0 (record { low = subst (λ o. AtLeast o (value_at M i x)) d.lower_side h.low; high = subst (λ o. AtMost o (value_at M i x)) d.upper_side h.high })))))),
        λ h. let g = old.1 (subst (λ c. c ≤ℚ (sign f *ℚ t.side)) (sym (old_value x))
            (s.1 (subst (λ c. (S *ℚ x j +ℚ sign f *ℚ rest_at M i j x) ≤ℚ c) m (subst (λ c. c ≤ℚ (sign f *ℚ new_side M i j f t)) (new_value x) (new.0 h))))) in
            record { low = subst (λ o. AtLeast o (value_at M i x)) (sym d.lower_side) g.low; high = subst (λ o. AtMost o (value_at M i x)) (sym d.upper_side) g.high },
      )

  same_off_i : (x : Vector) (p : ℕ) → p ≢ i → value_at R p x ≡ value_at M p x
  same_off_i x p n = ap (λ (r : ℕ → Number). total M.columns (λ k. r k *ℚ x k)) (put-other M.coefficient i (put (M.coefficient i) j (new_coefficient M i j f t)) p n)

  pub coefficient_tightening : (s : Sense) → Reduces s M (coefficient_tightened M i j f t) (λ x. x) zero_ℚ
  coefficient_tightening s = same_points s M R (λ x. refl)
      (λ x h. record {
        rows = at_or_off (λ p. p < M.rows → Between (M.lower_side p) (M.upper_side p) (value_at M p x)) i
            (λ l. let b : Between (lower_alone f (new_side M i j f t)) (upper_alone f (new_side M i j f t)) (value_at R i x) = rw (put-same M.lower_side, put-same M.upper_side) at (h.rows i l) in (same_at_i x h.columns (h.whole j d.column d.whole)).1 b)
            (λ p n l. rw (← put-other M.lower_side i (lower_alone f (new_side M i j f t)) p n, ← put-other M.upper_side i (upper_alone f (new_side M i j f t)) p n, ← same_off_i x p n) (h.rows p l));
        columns = h.columns;
        whole = h.whole;
        gaps = h.gaps;
      })
      (λ x h. record {
        rows = at_or_off (λ p. p < M.rows → Between (put M.lower_side i (lower_alone f (new_side M i j f t)) p) (put M.upper_side i (upper_alone f (new_side M i j f t)) p) (value_at R p x)) i
            (λ l. rw (put-same M.lower_side, put-same M.upper_side) ((same_at_i x h.columns (h.whole j d.column d.whole)).0 (h.rows i l)))
            (λ p n l. rw (put-other M.lower_side i (lower_alone f (new_side M i j f t)) p n, put-other M.upper_side i (upper_alone f (new_side M i j f t)) p n, same_off_i x p n) (h.rows p l));
        columns = h.columns;
        whole = h.whole;
        gaps = h.gaps;
      })
