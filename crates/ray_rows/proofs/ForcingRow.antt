-- K7: what the columns of a forcing row cannot keep goes to the row.
use Rattle.std.proofs.Common.{◌≡◌, ℕ, ◌<◌, pos, sym, refl, ap, ◌∙◌, [], ◌∷◌, subst, Option, Some, Bool, true, false, unwrap_or}
use Rattle.std.specs.Prelude.{if◌then◌else◌}
use Rattle.fractions.specs.Ring.{ring, v, num, ◌:+◌, ◌:-◌, ◌:*◌, inv}
use Rattle.fractions.specs.Number.{Number, rational, zero_ℚ, ◌+ℚ◌, ◌-ℚ◌, ◌*ℚ◌, neg_ℚ}
use Rattle.fractions.specs.Order.{◌≤ℚ◌, ◌<ℚ◌, ≤ℚ_refl, ≤ℚ_antisym, ≤ℚ-by, <ℚ-≤ℚ, <ℚ-not}
use Rattle.fractions.specs.Linear.{linear, fact}
use Rattle.fractions.specs.Compare.{lt_ℚ}
use Rattle.fractions.specs.Division.{◌/ℚ◌}
use Rattle.fractions.specs.Total.{total, put}
use Rattle.fractions.specs.Ends.{scaled}
use Rattle.fractions.proofs.Totals.{total-*, total_same}
use Rattle.fractions.specs.Signs.{over-times, <ℚ-≢, ≤ℚ-*_pos}
use Rattle.lp_model.specs.Vectors.{Vector}
use Rattle.lp_model.specs.LinearProgram.{LinearProgram}
use Rattle.lp_theory.specs.Activities.{least_term, greatest_term, least_terms, greatest_terms}
use Rattle.lp_theory.proofs.ActivityLaws.{lt_true, lt_false}
use Rattle.lp_theory.proofs.MetEndLaws.{quotient_up}
use Rattle.lp_theory.proofs.Pairs.{bounded, some_inj}
use Rattle.lp_rows.specs.ForcingRow.{IsForcedAtLowerSide, IsForcedAtUpperSide, lower_at_greatest, upper_at_greatest, lower_at_least, upper_at_least, forced_at_lower_side, forced_at_upper_side}
use Rattle.lp_rays.specs.Ray.{Weights, IsWeight, worth, IsWeighting, StepsBack}
use Rattle.lp_rays.specs.Handing.{ratio_at_greatest, low_at_greatest, high_at_greatest, ratio_at_least, low_at_least, high_at_least}
use Rattle.lp_rays.specs.Steps.{ray_forced_at_lower_side, ray_forced_at_upper_side}
use Rattle.lp_rays.proofs.Weighing.{worth_none, weight_pos, no_weight}
use Rattle.lp_rays.proofs.Handing.{negative_above}
use Rattle.lp_rays.proofs.Moving.{Moved, steps_of, ColumnMoved, column_same, row_takes, row_back, row_none, stays}
use Rattle.ray_rows.proofs.Ends.{are_numbers, scaled_is, zero_times, one_below, sum_pos}

-- the sign of a number and both tests of it
abbrev Sign : Number → Bool → Bool → Type 0
Sign a true true = ⊥
Sign a true false = zero_ℚ <ℚ a
Sign a false true = a <ℚ zero_ℚ
Sign a false false = a ≡ zero_ℚ

sign : (a : Number) → Sign a (lt_ℚ zero_ℚ a) (lt_ℚ a zero_ℚ)
sign a = by (lt_ℚ zero_ℚ a) (lt_ℚ a zero_ℚ) refl refl
  where
    by : (b c : Bool) → lt_ℚ zero_ℚ a ≡ b → lt_ℚ a zero_ℚ ≡ c → Sign a b c
    by true true x y = absurd (<ℚ-not (lt_true _ _ x) (<ℚ-≤ℚ (lt_true _ _ y)))
    by true false x y = lt_true _ _ x
    by false true x y = lt_true _ _ y
    by false false x y = ≤ℚ_antisym (lt_false _ _ x) (lt_false _ _ y)

-- z is at most d a where z over a is at most d
needed : (a d z : Number) → zero_ℚ <ℚ a → (z /ℚ a) ≤ℚ d → z ≤ℚ (d *ℚ a)
needed a d z h k = ≤ℚ-by (a *ℚ (z /ℚ a)) (a *ℚ d) z (d *ℚ a)
    (ap (λ c. a *ℚ d -ℚ c) (over-times a z (<ℚ-≢ h)) ∙ ring rational (a ∷ d ∷ z ∷ []) (v 0 :* v 1 :- v 2) (v 1 :* v 0 :- v 2) refl)
    (≤ℚ-*_pos a h k)

-- both bounds of the column are the upper one, or the lower one, c, with the weights p and q
to_upper : (l : Option Number) (c p q m : Number) → zero_ℚ ≤ℚ q → p ≤ℚ m → ColumnMoved l (Some c) zero_ℚ ((q +ℚ m) -ℚ p) (p -ℚ q) (p *ℚ c -ℚ q *ℚ c) m (m *ℚ c)
to_upper l c p q m h k = record {
  low = no_weight l;
  high = linear (p ∷ q ∷ m ∷ []) (fact 1 (num (pos 0)) (v 1) ∷ fact 1 (v 0) (v 2) ∷ []) 0 (num (pos 0)) ((v 1 :+ v 2) :- v 0) (h, (k, tt)) refl;
  net = ring rational (p ∷ q ∷ m ∷ []) (num (pos 0) :- ((v 1 :+ v 2) :- v 0)) ((v 0 :- v 1) :- v 2) refl;
  worths = ap (λ y. y -ℚ ((q +ℚ m) -ℚ p) *ℚ c) (worth_none l) ∙ ring rational (p ∷ q ∷ m ∷ c ∷ []) (num (pos 0) :- ((v 1 :+ v 2) :- v 0) :* v 3) ((v 0 :* v 3 :- v 1 :* v 3) :- v 2 :* v 3) refl;
}

to_lower : (u : Option Number) (c p q m : Number) → zero_ℚ ≤ℚ p → q ≤ℚ neg_ℚ m → ColumnMoved (Some c) u ((p -ℚ m) -ℚ q) zero_ℚ (p -ℚ q) (p *ℚ c -ℚ q *ℚ c) m (m *ℚ c)
to_lower u c p q m h k = record {
  low = linear (p ∷ q ∷ m ∷ []) (fact 1 (num (pos 0)) (v 0) ∷ fact 1 (v 1) (inv (v 2)) ∷ []) 0 (num (pos 0)) ((v 0 :- v 2) :- v 1) (h, (k, tt)) refl;
  high = no_weight u;
  net = ring rational (p ∷ q ∷ m ∷ []) (((v 0 :- v 2) :- v 1) :- num (pos 0)) ((v 0 :- v 1) :- v 2) refl;
  worths = ap (λ y. ((p -ℚ m) -ℚ q) *ℚ c -ℚ y) (worth_none u) ∙ ring rational (p ∷ q ∷ m ∷ c ∷ []) (((v 0 :- v 2) :- v 1) :* v 3 :- num (pos 0)) ((v 0 :* v 3 :- v 1 :* v 3) :- v 2 :* v 3) refl;
}

turn : (a d : Number) → d *ℚ neg_ℚ a ≡ neg_ℚ (d *ℚ a)
turn a d = ring rational (a ∷ d ∷ []) (v 1 :* inv (v 0)) (inv (v 1 :* v 0)) refl

times_end : (d a c e : Number) → a *ℚ c ≡ e → (d *ℚ a) *ℚ c ≡ d *ℚ e
times_end d a c e h = ring rational (d ∷ a ∷ c ∷ []) (v 0 :* v 1 :* v 2) (v 0 :* (v 1 :* v 2)) refl ∙ ap (λ x. d *ℚ x) h

-- ---- at the lower side: each column at the end that gives the most
ratio_pos : (a : Number) (l u : Option Number) (p q : Number) → IsWeight (if lt_ℚ zero_ℚ a then u else l) p → IsWeight (if lt_ℚ a zero_ℚ then l else u) q → zero_ℚ ≤ℚ ratio_at_greatest a p q
ratio_pos a l u p q h k = by (lt_ℚ zero_ℚ a) (lt_ℚ a zero_ℚ) (sign a)
  where
    by : (b c : Bool) → Sign a b c → zero_ℚ ≤ℚ (if b then p /ℚ a else if c then q /ℚ neg_ℚ a else zero_ℚ)
    by true true s = absurd s
    by true false s = quotient_up a p s (weight_pos _ p h)
    by false true s = quotient_up (neg_ℚ a) q (negative_above a s) (weight_pos _ q k)
    by false false s = ≤ℚ_refl zero_ℚ

at_greatest : (a d : Number) (l u : Option Number) (p q e : Number) → IsWeight (if lt_ℚ zero_ℚ a then u else l) p → IsWeight (if lt_ℚ a zero_ℚ then l else u) q
    → ratio_at_greatest a p q ≤ℚ d → greatest_term a l u ≡ Some e
    → ColumnMoved l u (low_at_greatest a d p q) (high_at_greatest a d p q) (p -ℚ q) (worth (if lt_ℚ zero_ℚ a then u else l) p -ℚ worth (if lt_ℚ a zero_ℚ then l else u) q) (d *ℚ a) (d *ℚ e)
unfolding least_term
at_greatest a d l u p q e = by (lt_ℚ zero_ℚ a) (lt_ℚ a zero_ℚ) (sign a)
  where
    by : (b c : Bool) → Sign a b c → IsWeight (if b then u else l) p → IsWeight (if c then l else u) q
        → (if b then p /ℚ a else if c then q /ℚ neg_ℚ a else zero_ℚ) ≤ℚ d → (if b then scaled a u else if c then scaled a l else Some zero_ℚ) ≡ Some e
        → ColumnMoved l u (if b then zero_ℚ else if c then (p -ℚ d *ℚ a) -ℚ q else p) (if b then (q +ℚ d *ℚ a) -ℚ p else if c then zero_ℚ else q) (p -ℚ q)
        (worth (if b then u else l) p -ℚ worth (if c then l else u) q) (d *ℚ a) (d *ℚ e)
    by true true s h k r m = absurd s
    by true false s h k r m = let f = scaled_is u a e m in
        subst (λ o. ColumnMoved l o zero_ℚ ((q +ℚ d *ℚ a) -ℚ p) (p -ℚ q) (worth o p -ℚ worth o q) (d *ℚ a) (d *ℚ e)) (sym f.1)
        (subst (λ y. ColumnMoved l (Some f.0) zero_ℚ ((q +ℚ d *ℚ a) -ℚ p) (p -ℚ q) (p *ℚ f.0 -ℚ q *ℚ f.0) (d *ℚ a) y) (times_end d a f.0 e f.2) (to_upper l f.0 p q (d *ℚ a) (weight_pos u q k) (needed a d p s r)))
    by false true s h k r m = let f = scaled_is l a e m in
        subst (λ o. ColumnMoved o u ((p -ℚ d *ℚ a) -ℚ q) zero_ℚ (p -ℚ q) (worth o p -ℚ worth o q) (d *ℚ a) (d *ℚ e)) (sym f.1)
        (subst (λ y. ColumnMoved (Some f.0) u ((p -ℚ d *ℚ a) -ℚ q) zero_ℚ (p -ℚ q) (p *ℚ f.0 -ℚ q *ℚ f.0) (d *ℚ a) y) (times_end d a f.0 e f.2)
        (to_lower u f.0 p q (d *ℚ a) (weight_pos l p h) (subst (λ y. q ≤ℚ y) (turn a d) (needed (neg_ℚ a) d q (negative_above a s) r))))
    by false false s h k r m = column_same l u p q (d *ℚ a) (d *ℚ e) (h, k) (zero_times d a s) (zero_times d e (sym (some_inj m)))

module _ (M : LinearProgram) (i : ℕ) (t : IsForcedAtLowerSide M i) where
  abbrev P : LinearProgram
  P = bounded M (lower_at_greatest M i) (upper_at_greatest M i)

  forced_low : (w : Weights) → IsWeighting (forced_at_lower_side M i) w → Moved M (forced_at_lower_side M i) w (ray_forced_at_lower_side M.columns i (M.coefficient i) w)
  forced_low w h =
      let first = row_back P i w t.row h in
      let zeros = row_none P i w t.row h in
      let r : Vector = λ k. ratio_at_greatest (M.coefficient i k) (w.p k) (w.q k) in
      let d : Number = total M.columns r in
      let up : (k : ℕ) → k < M.columns → zero_ℚ ≤ℚ r k = λ k l. ratio_pos (M.coefficient i k) (M.lower_bound k) (M.upper_bound k) (w.p k) (w.q k) (h.columns k l).0 (h.columns k l).1 in
      let n = are_numbers M.columns (greatest_terms M i) t.number t.reach in
      let e : (k : ℕ) → ((d -ℚ w.t i) -ℚ (w.s i -ℚ w.t i)) *ℚ M.coefficient i k ≡ d *ℚ M.coefficient i k = λ k.
      ap (λ y. ((d -ℚ w.t i) -ℚ (y -ℚ w.t i)) *ℚ M.coefficient i k) zeros.0 ∙ ring rational (d ∷ w.t i ∷ M.coefficient i k ∷ []) (((v 0 :- v 1) :- (num (pos 0) :- v 1)) :* v 2) (v 0 :* v 2) refl in
      let second = subst (λ (T : Vector). Moved M P w (record { s = put w.s i d; t = T; p = λ k. low_at_greatest (M.coefficient i k) d (w.p k) (w.q k); q = λ k. high_at_greatest (M.coefficient i k) d (w.p k) (w.q k) })) (stays w.t i)
      (row_takes M (lower_at_greatest M i) (upper_at_greatest M i) i w d (w.t i) _ _ (λ k. d *ℚ unwrap_or (greatest_terms M i k) zero_ℚ) t.row first.weighting
      (subst (λ o. IsWeight o d) (sym t.side) (sum_pos M.columns r up))
      (first.weighting.rows i t.row).1
      (λ k l. subst (λ y. ColumnMoved (M.lower_bound k) (M.upper_bound k) (low_at_greatest (M.coefficient i k) d (w.p k) (w.q k)) (high_at_greatest (M.coefficient i k) d (w.p k) (w.q k)) (w.p k -ℚ w.q k)
      (worth (lower_at_greatest M i k) (w.p k) -ℚ worth (upper_at_greatest M i k) (w.q k)) y (d *ℚ unwrap_or (greatest_terms M i k) zero_ℚ)) (sym (e k))
      (at_greatest (M.coefficient i k) d (M.lower_bound k) (M.upper_bound k) (w.p k) (w.q k) (unwrap_or (greatest_terms M i k) zero_ℚ) (h.columns k l).0 (h.columns k l).1 (one_below M.columns r up k l) (n.each k l)))
      (total-* M.columns d (λ k. unwrap_or (greatest_terms M i k) zero_ℚ) ∙ ap (λ y. d *ℚ y) n.sum
      ∙ ring rational (d ∷ t.number ∷ worth (M.upper_side i) (w.t i) ∷ []) (v 0 :* v 1) ((v 0 :* v 1 :- v 2) :- (num (pos 0) :* v 1 :- v 2)) refl
      ∙ ap (λ y. (d *ℚ t.number -ℚ worth (M.upper_side i) (w.t i)) -ℚ (y *ℚ t.number -ℚ worth (M.upper_side i) (w.t i))) (sym zeros.0)
      ∙ ap (λ o. (worth o d -ℚ worth (M.upper_side i) (w.t i)) -ℚ (worth o (w.s i) -ℚ worth (M.upper_side i) (w.t i))) (sym t.side))) in
      record { weighting = second.weighting; totals = second.totals ∙ first.totals }

  pub forced_low_back : StepsBack M (forced_at_lower_side M i) (ray_forced_at_lower_side M.columns i (M.coefficient i))
  forced_low_back = steps_of M (forced_at_lower_side M i) _ forced_low

-- ---- at the upper side: each column at the end that gives the least
ratio_pos' : (a : Number) (l u : Option Number) (p q : Number) → IsWeight (if lt_ℚ a zero_ℚ then u else l) p → IsWeight (if lt_ℚ zero_ℚ a then l else u) q → zero_ℚ ≤ℚ ratio_at_least a p q
ratio_pos' a l u p q h k = by (lt_ℚ zero_ℚ a) (lt_ℚ a zero_ℚ) (sign a)
  where
    by : (b c : Bool) → Sign a b c → zero_ℚ ≤ℚ (if b then q /ℚ a else if c then p /ℚ neg_ℚ a else zero_ℚ)
    by true true s = absurd s
    by true false s = quotient_up a q s (weight_pos _ q k)
    by false true s = quotient_up (neg_ℚ a) p (negative_above a s) (weight_pos _ p h)
    by false false s = ≤ℚ_refl zero_ℚ

-- the same with the sign of what moves changed over
to_lower' : (u : Option Number) (c p q m : Number) → zero_ℚ ≤ℚ p → q ≤ℚ m → ColumnMoved (Some c) u ((p +ℚ m) -ℚ q) zero_ℚ (p -ℚ q) (p *ℚ c -ℚ q *ℚ c) (neg_ℚ m) (neg_ℚ (m *ℚ c))
to_lower' u c p q m h k = record {
  low = linear (p ∷ q ∷ m ∷ []) (fact 1 (num (pos 0)) (v 0) ∷ fact 1 (v 1) (v 2) ∷ []) 0 (num (pos 0)) ((v 0 :+ v 2) :- v 1) (h, (k, tt)) refl;
  high = no_weight u;
  net = ring rational (p ∷ q ∷ m ∷ []) (((v 0 :+ v 2) :- v 1) :- num (pos 0)) ((v 0 :- v 1) :- inv (v 2)) refl;
  worths = ap (λ y. ((p +ℚ m) -ℚ q) *ℚ c -ℚ y) (worth_none u) ∙ ring rational (p ∷ q ∷ m ∷ c ∷ []) (((v 0 :+ v 2) :- v 1) :* v 3 :- num (pos 0)) ((v 0 :* v 3 :- v 1 :* v 3) :- inv (v 2 :* v 3)) refl;
}

to_upper' : (l : Option Number) (c p q m : Number) → zero_ℚ ≤ℚ q → p ≤ℚ neg_ℚ m → ColumnMoved l (Some c) zero_ℚ ((q -ℚ m) -ℚ p) (p -ℚ q) (p *ℚ c -ℚ q *ℚ c) (neg_ℚ m) (neg_ℚ (m *ℚ c))
to_upper' l c p q m h k = record {
  low = no_weight l;
  high = linear (p ∷ q ∷ m ∷ []) (fact 1 (num (pos 0)) (v 1) ∷ fact 1 (v 0) (inv (v 2)) ∷ []) 0 (num (pos 0)) ((v 1 :- v 2) :- v 0) (h, (k, tt)) refl;
  net = ring rational (p ∷ q ∷ m ∷ []) (num (pos 0) :- ((v 1 :- v 2) :- v 0)) ((v 0 :- v 1) :- inv (v 2)) refl;
  worths = ap (λ y. y -ℚ ((q -ℚ m) -ℚ p) *ℚ c) (worth_none l) ∙ ring rational (p ∷ q ∷ m ∷ c ∷ []) (num (pos 0) :- ((v 1 :- v 2) :- v 0) :* v 3) ((v 0 :* v 3 :- v 1 :* v 3) :- inv (v 2 :* v 3)) refl;
}

at_least : (a d : Number) (l u : Option Number) (p q e : Number) → IsWeight (if lt_ℚ a zero_ℚ then u else l) p → IsWeight (if lt_ℚ zero_ℚ a then l else u) q
    → ratio_at_least a p q ≤ℚ d → least_term a l u ≡ Some e
    → ColumnMoved l u (low_at_least a d p q) (high_at_least a d p q) (p -ℚ q) (worth (if lt_ℚ a zero_ℚ then u else l) p -ℚ worth (if lt_ℚ zero_ℚ a then l else u) q) (neg_ℚ (d *ℚ a)) (neg_ℚ (d *ℚ e))
unfolding least_term
at_least a d l u p q e = by (lt_ℚ zero_ℚ a) (lt_ℚ a zero_ℚ) (sign a)
  where
    by : (b c : Bool) → Sign a b c → IsWeight (if c then u else l) p → IsWeight (if b then l else u) q
        → (if b then q /ℚ a else if c then p /ℚ neg_ℚ a else zero_ℚ) ≤ℚ d → (if b then scaled a l else if c then scaled a u else Some zero_ℚ) ≡ Some e
        → ColumnMoved l u (if b then (p +ℚ d *ℚ a) -ℚ q else if c then zero_ℚ else p) (if b then zero_ℚ else if c then (q -ℚ d *ℚ a) -ℚ p else q) (p -ℚ q)
        (worth (if c then u else l) p -ℚ worth (if b then l else u) q) (neg_ℚ (d *ℚ a)) (neg_ℚ (d *ℚ e))
    by true true s h k r m = absurd s
    by true false s h k r m = let f = scaled_is l a e m in
        subst (λ o. ColumnMoved o u ((p +ℚ d *ℚ a) -ℚ q) zero_ℚ (p -ℚ q) (worth o p -ℚ worth o q) (neg_ℚ (d *ℚ a)) (neg_ℚ (d *ℚ e))) (sym f.1)
        (subst (λ y. ColumnMoved (Some f.0) u ((p +ℚ d *ℚ a) -ℚ q) zero_ℚ (p -ℚ q) (p *ℚ f.0 -ℚ q *ℚ f.0) (neg_ℚ (d *ℚ a)) (neg_ℚ y)) (times_end d a f.0 e f.2) (to_lower' u f.0 p q (d *ℚ a) (weight_pos l p h) (needed a d q s r)))
    by false true s h k r m = let f = scaled_is u a e m in
        subst (λ o. ColumnMoved l o zero_ℚ ((q -ℚ d *ℚ a) -ℚ p) (p -ℚ q) (worth o p -ℚ worth o q) (neg_ℚ (d *ℚ a)) (neg_ℚ (d *ℚ e))) (sym f.1)
        (subst (λ y. ColumnMoved l (Some f.0) zero_ℚ ((q -ℚ d *ℚ a) -ℚ p) (p -ℚ q) (p *ℚ f.0 -ℚ q *ℚ f.0) (neg_ℚ (d *ℚ a)) (neg_ℚ y)) (times_end d a f.0 e f.2)
        (to_upper' l f.0 p q (d *ℚ a) (weight_pos u q k) (subst (λ y. p ≤ℚ y) (turn a d) (needed (neg_ℚ a) d p (negative_above a s) r))))
    by false false s h k r m = column_same l u p q (neg_ℚ (d *ℚ a)) (neg_ℚ (d *ℚ e)) (h, k) (ap neg_ℚ (zero_times d a s) ∙ ring rational [] (inv (num (pos 0))) (num (pos 0)) refl) (ap neg_ℚ (zero_times d e (sym (some_inj m))) ∙ ring rational [] (inv (num (pos 0))) (num (pos 0)) refl)

module _ (M : LinearProgram) (i : ℕ) (t : IsForcedAtUpperSide M i) where
  abbrev P' : LinearProgram
  P' = bounded M (lower_at_least M i) (upper_at_least M i)

  forced_high : (w : Weights) → IsWeighting (forced_at_upper_side M i) w → Moved M (forced_at_upper_side M i) w (ray_forced_at_upper_side M.columns i (M.coefficient i) w)
  forced_high w h =
      let first = row_back P' i w t.row h in
      let zeros = row_none P' i w t.row h in
      let r : Vector = λ k. ratio_at_least (M.coefficient i k) (w.p k) (w.q k) in
      let d : Number = total M.columns r in
      let up : (k : ℕ) → k < M.columns → zero_ℚ ≤ℚ r k = λ k l. ratio_pos' (M.coefficient i k) (M.lower_bound k) (M.upper_bound k) (w.p k) (w.q k) (h.columns k l).0 (h.columns k l).1 in
      let n = are_numbers M.columns (least_terms M i) t.number t.reach in
      let e : (k : ℕ) → ((w.s i -ℚ d) -ℚ (w.s i -ℚ w.t i)) *ℚ M.coefficient i k ≡ neg_ℚ (d *ℚ M.coefficient i k) = λ k.
      ap (λ y. ((w.s i -ℚ d) -ℚ (w.s i -ℚ y)) *ℚ M.coefficient i k) zeros.1 ∙ ring rational (d ∷ w.s i ∷ M.coefficient i k ∷ []) (((v 1 :- v 0) :- (v 1 :- num (pos 0))) :* v 2) (inv (v 0 :* v 2)) refl in
      let second = subst (λ (S : Vector). Moved M P' w (record { s = S; t = put w.t i d; p = λ k. low_at_least (M.coefficient i k) d (w.p k) (w.q k); q = λ k. high_at_least (M.coefficient i k) d (w.p k) (w.q k) })) (stays w.s i)
      (row_takes M (lower_at_least M i) (upper_at_least M i) i w (w.s i) d _ _ (λ k. neg_ℚ (d *ℚ unwrap_or (least_terms M i k) zero_ℚ)) t.row first.weighting
      (first.weighting.rows i t.row).0
      (subst (λ o. IsWeight o d) (sym t.side) (sum_pos M.columns r up))
      (λ k l. subst (λ y. ColumnMoved (M.lower_bound k) (M.upper_bound k) (low_at_least (M.coefficient i k) d (w.p k) (w.q k)) (high_at_least (M.coefficient i k) d (w.p k) (w.q k)) (w.p k -ℚ w.q k)
      (worth (lower_at_least M i k) (w.p k) -ℚ worth (upper_at_least M i k) (w.q k)) y (neg_ℚ (d *ℚ unwrap_or (least_terms M i k) zero_ℚ))) (sym (e k))
      (at_least (M.coefficient i k) d (M.lower_bound k) (M.upper_bound k) (w.p k) (w.q k) (unwrap_or (least_terms M i k) zero_ℚ) (h.columns k l).0 (h.columns k l).1 (one_below M.columns r up k l) (n.each k l)))
      (total_same M.columns _ (λ k. neg_ℚ d *ℚ unwrap_or (least_terms M i k) zero_ℚ) (λ k l. ring rational (d ∷ unwrap_or (least_terms M i k) zero_ℚ ∷ []) (inv (v 0 :* v 1)) (inv (v 0) :* v 1) refl)
      ∙ total-* M.columns (neg_ℚ d) (λ k. unwrap_or (least_terms M i k) zero_ℚ) ∙ ap (λ y. neg_ℚ d *ℚ y) n.sum
      ∙ ring rational (d ∷ t.number ∷ worth (M.lower_side i) (w.s i) ∷ []) (inv (v 0) :* v 1) ((v 2 :- v 0 :* v 1) :- (v 2 :- num (pos 0) :* v 1)) refl
      ∙ ap (λ y. (worth (M.lower_side i) (w.s i) -ℚ d *ℚ t.number) -ℚ (worth (M.lower_side i) (w.s i) -ℚ y *ℚ t.number)) (sym zeros.1)
      ∙ ap (λ o. (worth (M.lower_side i) (w.s i) -ℚ worth o d) -ℚ (worth (M.lower_side i) (w.s i) -ℚ worth o (w.t i))) (sym t.side))) in
      record { weighting = second.weighting; totals = second.totals ∙ first.totals }

  pub forced_high_back : StepsBack M (forced_at_upper_side M i) (ray_forced_at_upper_side M.columns i (M.coefficient i))
  forced_high_back = steps_of M (forced_at_upper_side M i) _ forced_high
