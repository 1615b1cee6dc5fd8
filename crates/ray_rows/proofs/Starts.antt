-- The rays of the verdicts.
use Rattle.std.proofs.Common.{◌≡◌, ℕ, ◌<◌, ◌⊎◌, inl, inr, pos, sym, refl, ap, ap₂, ◌∙◌, [], ◌∷◌, subst, Option, Some, None, unwrap_or}
use Rattle.fractions.specs.Ring.{ring, v, num, ◌:+◌, ◌:-◌, ◌:*◌, inv}
use Rattle.fractions.specs.Number.{Number, rational, zero_ℚ, one_ℚ, ◌+ℚ◌, ◌-ℚ◌, ◌*ℚ◌, neg_ℚ}
use Rattle.fractions.specs.Order.{◌≤ℚ◌, ◌<ℚ◌, ≤ℚ_cases, <ℚ-not, ≤ℚ-by, <ℚ-≤ℚ}
use Rattle.fractions.specs.Inverse.{not_one-≤-zero}
use Rattle.fractions.specs.Total.{total, put}
use Rattle.fractions.proofs.Totals.{put-same, put-other, at_or_off, total-zero, total-*, total_same}
use Rattle.lp_model.specs.Vectors.{Vector}
use Rattle.lp_model.specs.LinearProgram.{LinearProgram}
use Rattle.lp_theory.specs.Crossed.{AreCrossed}
use Rattle.lp_theory.specs.Activities.{least, greatest, least_terms, greatest_terms}
use Rattle.lp_theory.proofs.Elsewhere.{one_term}
use Rattle.lp_theory.proofs.Pairs.{below_if_not}
use Rattle.lp_rows.specs.CrossedSides.{IsCrossedRow}
use Rattle.lp_rows.specs.InfeasibleRow.{IsAboveUpperSide, IsBelowLowerSide}
use Rattle.lp_columns.specs.CrossedBounds.{IsCrossedColumn}
use Rattle.lp_rays.specs.Ray.{Weights, IsWeight, worth, total_of, IsWeighting, Ray}
use Rattle.lp_rays.specs.Starts.{no_weights, at_crossed_column, at_crossed_row, at_row_above, at_row_below}
use Rattle.lp_rays.proofs.Weighing.{side_worth, bound_worth, total_by_parts, no_weight, worth_none}
use Rattle.lp_rays.proofs.Moving.{ColumnMoved, Taken, row_taken, stays}
use Rattle.ray_rows.proofs.Ends.{are_numbers, pushed, pulled}

one_pos : zero_ℚ ≤ℚ one_ℚ
one_pos = by (≤ℚ_cases zero_ℚ one_ℚ)
  where
    by : (zero_ℚ ≤ℚ one_ℚ) ⊎ (one_ℚ <ℚ zero_ℚ) → zero_ℚ ≤ℚ one_ℚ
    by (inl h) = h
    by (inr h) = absurd (not_one-≤-zero (<ℚ-≤ℚ h))

zeros_times : (n : ℕ) (a : ℕ → Number) → total n (λ m. (zero_ℚ -ℚ zero_ℚ) *ℚ a m) ≡ zero_ℚ
zeros_times n a = total-zero n _ (λ m l. ring rational (a m ∷ []) ((num (pos 0) :- num (pos 0)) :* v 0) (num (pos 0)) refl)

-- the weights 1 and 1 of crossed ends
crossed_pos : (l u : Option Number) → AreCrossed l u → (IsWeight l one_ℚ × IsWeight u one_ℚ) × (zero_ℚ <ℚ (worth l one_ℚ -ℚ worth u one_ℚ))
crossed_pos None u c = absurd c
crossed_pos (Some l) None c = absurd c
crossed_pos (Some l) (Some u) c = ((one_pos, one_pos), below_if_not (λ h. <ℚ-not c (≤ℚ-by (one_ℚ *ℚ l -ℚ one_ℚ *ℚ u) zero_ℚ l u (ring rational (l ∷ u ∷ []) (num (pos 0) :- (num (pos 1) :* v 0 :- num (pos 1) :* v 1)) (v 1 :- v 0) refl) h)))

-- ---- V1
pub crossed_column_ray : (M : LinearProgram) (j : ℕ) → IsCrossedColumn M j → Ray M (at_crossed_column j)
crossed_column_ray M j d =
    let c = crossed_pos (M.lower_bound j) (M.upper_bound j) d.crossed in
    let e : Vector = put (λ k. zero_ℚ) j one_ℚ in
    record {
      weighting = record {
        rows = λ i l. (no_weight (M.lower_side i), no_weight (M.upper_side i));
        columns = at_or_off (λ k. k < M.columns → IsWeight (M.lower_bound k) (e k) × IsWeight (M.upper_bound k) (e k)) j
            (λ l. rw (put-same (λ (k : ℕ). zero_ℚ) j one_ℚ) c.0)
            (λ k n l. rw (put-other (λ (k : ℕ). zero_ℚ) j one_ℚ k n) (no_weight (M.lower_bound k), no_weight (M.upper_bound k)));
        nets = λ k l. ap (λ y. (y +ℚ e k) -ℚ e k) (zeros_times M.rows (λ m. M.coefficient m k)) ∙ ring rational (e k ∷ []) ((num (pos 0) :+ v 0) :- v 0) (num (pos 0)) refl;
      };
      positive = subst (λ y. zero_ℚ <ℚ y) (sym (total_by_parts M (at_crossed_column j)
          ∙ ap₂ ◌+ℚ◌ (total-zero M.rows _ (λ i l. ap₂ ◌-ℚ◌ (worth_none (M.lower_side i)) (worth_none (M.upper_side i)) ∙ ring rational [] (num (pos 0) :- num (pos 0)) (num (pos 0)) refl))
          (one_term M.columns (bound_worth M (at_crossed_column j)) j d.column (λ k l n. ap (λ y. worth (M.lower_bound k) y -ℚ worth (M.upper_bound k) y) (put-other (λ (k : ℕ). zero_ℚ) j one_ℚ k n)
          ∙ ap₂ ◌-ℚ◌ (worth_none (M.lower_bound k)) (worth_none (M.upper_bound k)) ∙ ring rational [] (num (pos 0) :- num (pos 0)) (num (pos 0)) refl)
          ∙ ap (λ y. worth (M.lower_bound j) y -ℚ worth (M.upper_bound j) y) (put-same (λ (k : ℕ). zero_ℚ) j one_ℚ))
          ∙ ring rational ((worth (M.lower_bound j) one_ℚ -ℚ worth (M.upper_bound j) one_ℚ) ∷ []) (num (pos 0) :+ v 0) (v 0) refl)) c.1;
    }

pub crossed_row_ray : (M : LinearProgram) (i : ℕ) → IsCrossedRow M i → Ray M (at_crossed_row i)
crossed_row_ray M i d =
    let c = crossed_pos (M.lower_side i) (M.upper_side i) d.crossed in
    let e : Vector = put (λ k. zero_ℚ) i one_ℚ in
    record {
      weighting = record {
        rows = at_or_off (λ m. m < M.rows → IsWeight (M.lower_side m) (e m) × IsWeight (M.upper_side m) (e m)) i
            (λ l. rw (put-same (λ (k : ℕ). zero_ℚ) i one_ℚ) c.0)
            (λ m n l. rw (put-other (λ (k : ℕ). zero_ℚ) i one_ℚ m n) (no_weight (M.lower_side m), no_weight (M.upper_side m)));
        columns = λ k l. (no_weight (M.lower_bound k), no_weight (M.upper_bound k));
        nets = λ k l. ap (λ y. (y +ℚ zero_ℚ) -ℚ zero_ℚ) (total-zero M.rows _ (λ m r. ring rational (e m ∷ M.coefficient m k ∷ []) ((v 0 :- v 0) :* v 1) (num (pos 0)) refl)) ∙ ring rational [] ((num (pos 0) :+ num (pos 0)) :- num (pos 0)) (num (pos 0)) refl;
      };
      positive = subst (λ y. zero_ℚ <ℚ y) (sym (total_by_parts M (at_crossed_row i)
          ∙ ap₂ ◌+ℚ◌ (one_term M.rows (side_worth M (at_crossed_row i)) i d.row (λ m l n. ap (λ y. worth (M.lower_side m) y -ℚ worth (M.upper_side m) y) (put-other (λ (k : ℕ). zero_ℚ) i one_ℚ m n)
          ∙ ap₂ ◌-ℚ◌ (worth_none (M.lower_side m)) (worth_none (M.upper_side m)) ∙ ring rational [] (num (pos 0) :- num (pos 0)) (num (pos 0)) refl)
          ∙ ap (λ y. worth (M.lower_side i) y -ℚ worth (M.upper_side i) y) (put-same (λ (k : ℕ). zero_ℚ) i one_ℚ))
          (total-zero M.columns _ (λ k l. ap₂ ◌-ℚ◌ (worth_none (M.lower_bound k)) (worth_none (M.upper_bound k)) ∙ ring rational [] (num (pos 0) :- num (pos 0)) (num (pos 0)) refl))
          ∙ ring rational ((worth (M.lower_side i) one_ℚ -ℚ worth (M.upper_side i) one_ℚ) ∷ []) (v 0 :+ num (pos 0)) (v 0) refl)) c.1;
    }

-- ---- V2: a row takes 1 of what nothing has
nothing_weighs : (M : LinearProgram) → IsWeighting M no_weights
nothing_weighs M = record {
  rows = λ i l. (no_weight (M.lower_side i), no_weight (M.upper_side i));
  columns = λ k l. (no_weight (M.lower_bound k), no_weight (M.upper_bound k));
  nets = λ k l. ap (λ y. (y +ℚ zero_ℚ) -ℚ zero_ℚ) (zeros_times M.rows (λ m. M.coefficient m k)) ∙ ring rational [] ((num (pos 0) :+ num (pos 0)) :- num (pos 0)) (num (pos 0)) refl;
}

nothing_worth : (M : LinearProgram) → total_of M no_weights ≡ zero_ℚ
nothing_worth M = total_by_parts M no_weights
    ∙ ap₂ ◌+ℚ◌ (total-zero M.rows _ (λ i l. ap₂ ◌-ℚ◌ (worth_none (M.lower_side i)) (worth_none (M.upper_side i)) ∙ ring rational [] (num (pos 0) :- num (pos 0)) (num (pos 0)) refl))
    (total-zero M.columns _ (λ k l. ap₂ ◌-ℚ◌ (worth_none (M.lower_bound k)) (worth_none (M.upper_bound k)) ∙ ring rational [] (num (pos 0) :- num (pos 0)) (num (pos 0)) refl))
    ∙ ring rational [] (num (pos 0) :+ num (pos 0)) (num (pos 0)) refl

record Crossing (l u : Option Number) : Type 0 where
  low : Number
  high : Number
  is_low : l ≡ Some low
  is_high : u ≡ Some high
  above : high <ℚ low

crossing : (l u : Option Number) → AreCrossed l u → Crossing l u
crossing None u c = absurd c
crossing (Some l) None c = absurd c
crossing (Some l) (Some u) c = record { low = l; high = u; is_low = refl; is_high = refl; above = c }

difference_pos : (l u : Number) → u <ℚ l → zero_ℚ <ℚ (l -ℚ u)
difference_pos l u c = below_if_not (λ h. <ℚ-not c (≤ℚ-by (l -ℚ u) zero_ℚ l u (ring rational (l ∷ u ∷ []) (num (pos 0) :- (v 0 :- v 1)) (v 1 :- v 0) refl) h))

pub above_ray : (M : LinearProgram) (i : ℕ) → IsAboveUpperSide M i → Ray M (at_row_above i (M.coefficient i))
above_ray M i d =
    let c = crossing (least M i) (M.upper_side i) d.above in
    let n = are_numbers M.columns (least_terms M i) c.low c.is_low in
    let e : (k : ℕ) → ((zero_ℚ -ℚ one_ℚ) -ℚ (zero_ℚ -ℚ zero_ℚ)) *ℚ M.coefficient i k ≡ neg_ℚ (one_ℚ *ℚ M.coefficient i k) = λ k. ring rational (M.coefficient i k ∷ []) (((num (pos 0) :- num (pos 1)) :- (num (pos 0) :- num (pos 0))) :* v 0) (inv (num (pos 1) :* v 0)) refl in
    let w : Weights = at_row_above i (M.coefficient i) in
    let r : Taken M M no_weights w (((worth (M.lower_side i) zero_ℚ -ℚ worth (M.upper_side i) one_ℚ) -ℚ side_worth M no_weights i) -ℚ total M.columns (λ k. neg_ℚ (one_ℚ *ℚ unwrap_or (least_terms M i k) zero_ℚ))) =
    subst (λ (S : Vector). Taken M M no_weights (record { s = S; t = w.t; p = w.p; q = w.q }) (((worth (M.lower_side i) zero_ℚ -ℚ worth (M.upper_side i) one_ℚ) -ℚ side_worth M no_weights i) -ℚ total M.columns (λ k. neg_ℚ (one_ℚ *ℚ unwrap_or (least_terms M i k) zero_ℚ)))) (stays (λ m. zero_ℚ) i)
    (row_taken M M.lower_bound M.upper_bound i no_weights zero_ℚ one_ℚ w.p w.q (λ k. neg_ℚ (one_ℚ *ℚ unwrap_or (least_terms M i k) zero_ℚ)) d.row (nothing_weighs M) (no_weight (M.lower_side i))
    (subst (λ o. IsWeight o one_ℚ) (sym c.is_high) one_pos)
    (λ k l. subst (λ y. ColumnMoved (M.lower_bound k) (M.upper_bound k) (w.p k) (w.q k) (zero_ℚ -ℚ zero_ℚ) (worth (M.lower_bound k) zero_ℚ -ℚ worth (M.upper_bound k) zero_ℚ) y (neg_ℚ (one_ℚ *ℚ unwrap_or (least_terms M i k) zero_ℚ))) (sym (e k))
    (pulled (M.coefficient i k) one_ℚ (M.lower_bound k) (M.upper_bound k) zero_ℚ zero_ℚ (unwrap_or (least_terms M i k) zero_ℚ) (no_weight (M.lower_bound k)) (no_weight (M.upper_bound k)) one_pos (n.each k l)))) in
    record {
      weighting = r.weighting;
      positive = subst (λ y. zero_ℚ <ℚ y) (sym (r.totals
          ∙ ap₂ (λ y (z : Number). y +ℚ (((worth (M.lower_side i) zero_ℚ -ℚ worth (M.upper_side i) one_ℚ) -ℚ side_worth M no_weights i) -ℚ z)) (nothing_worth M)
          (total_same M.columns _ (λ k. neg_ℚ one_ℚ *ℚ unwrap_or (least_terms M i k) zero_ℚ) (λ k l. ring rational (unwrap_or (least_terms M i k) zero_ℚ ∷ []) (inv (num (pos 1) :* v 0)) (inv (num (pos 1)) :* v 0) refl)
          ∙ total-* M.columns (neg_ℚ one_ℚ) (λ k. unwrap_or (least_terms M i k) zero_ℚ) ∙ ap (λ y. neg_ℚ one_ℚ *ℚ y) n.sum)
          ∙ ap (λ o. zero_ℚ +ℚ (((worth (M.lower_side i) zero_ℚ -ℚ worth o one_ℚ) -ℚ (worth (M.lower_side i) zero_ℚ -ℚ worth o zero_ℚ)) -ℚ neg_ℚ one_ℚ *ℚ c.low)) c.is_high
          ∙ ring rational (worth (M.lower_side i) zero_ℚ ∷ c.high ∷ c.low ∷ []) (num (pos 0) :+ (((v 0 :- num (pos 1) :* v 1) :- (v 0 :- num (pos 0) :* v 1)) :- inv (num (pos 1)) :* v 2)) (v 2 :- v 1) refl)) (difference_pos c.low c.high c.above);
    }

pub below_ray : (M : LinearProgram) (i : ℕ) → IsBelowLowerSide M i → Ray M (at_row_below i (M.coefficient i))
below_ray M i d =
    let c = crossing (M.lower_side i) (greatest M i) d.below in
    let n = are_numbers M.columns (greatest_terms M i) c.high c.is_high in
    let e : (k : ℕ) → ((one_ℚ -ℚ zero_ℚ) -ℚ (zero_ℚ -ℚ zero_ℚ)) *ℚ M.coefficient i k ≡ one_ℚ *ℚ M.coefficient i k = λ k. ring rational (M.coefficient i k ∷ []) (((num (pos 1) :- num (pos 0)) :- (num (pos 0) :- num (pos 0))) :* v 0) (num (pos 1) :* v 0) refl in
    let w : Weights = at_row_below i (M.coefficient i) in
    let r : Taken M M no_weights w (((worth (M.lower_side i) one_ℚ -ℚ worth (M.upper_side i) zero_ℚ) -ℚ side_worth M no_weights i) -ℚ total M.columns (λ k. one_ℚ *ℚ unwrap_or (greatest_terms M i k) zero_ℚ)) =
    subst (λ (T : Vector). Taken M M no_weights (record { s = w.s; t = T; p = w.p; q = w.q }) (((worth (M.lower_side i) one_ℚ -ℚ worth (M.upper_side i) zero_ℚ) -ℚ side_worth M no_weights i) -ℚ total M.columns (λ k. one_ℚ *ℚ unwrap_or (greatest_terms M i k) zero_ℚ))) (stays (λ m. zero_ℚ) i)
    (row_taken M M.lower_bound M.upper_bound i no_weights one_ℚ zero_ℚ w.p w.q (λ k. one_ℚ *ℚ unwrap_or (greatest_terms M i k) zero_ℚ) d.row (nothing_weighs M)
    (subst (λ o. IsWeight o one_ℚ) (sym c.is_low) one_pos) (no_weight (M.upper_side i))
    (λ k l. subst (λ y. ColumnMoved (M.lower_bound k) (M.upper_bound k) (w.p k) (w.q k) (zero_ℚ -ℚ zero_ℚ) (worth (M.lower_bound k) zero_ℚ -ℚ worth (M.upper_bound k) zero_ℚ) y (one_ℚ *ℚ unwrap_or (greatest_terms M i k) zero_ℚ)) (sym (e k))
    (pushed (M.coefficient i k) one_ℚ (M.lower_bound k) (M.upper_bound k) zero_ℚ zero_ℚ (unwrap_or (greatest_terms M i k) zero_ℚ) (no_weight (M.lower_bound k)) (no_weight (M.upper_bound k)) one_pos (n.each k l)))) in
    record {
      weighting = r.weighting;
      positive = subst (λ y. zero_ℚ <ℚ y) (sym (r.totals
          ∙ ap₂ (λ y (z : Number). y +ℚ (((worth (M.lower_side i) one_ℚ -ℚ worth (M.upper_side i) zero_ℚ) -ℚ side_worth M no_weights i) -ℚ z)) (nothing_worth M)
          (total-* M.columns one_ℚ (λ k. unwrap_or (greatest_terms M i k) zero_ℚ) ∙ ap (λ y. one_ℚ *ℚ y) n.sum)
          ∙ ap (λ o. zero_ℚ +ℚ (((worth o one_ℚ -ℚ worth (M.upper_side i) zero_ℚ) -ℚ (worth o zero_ℚ -ℚ worth (M.upper_side i) zero_ℚ)) -ℚ one_ℚ *ℚ c.high)) c.is_low
          ∙ ring rational (worth (M.upper_side i) zero_ℚ ∷ c.high ∷ c.low ∷ []) (num (pos 0) :+ (((num (pos 1) :* v 2 :- v 0) :- (num (pos 0) :* v 2 :- v 0)) :- num (pos 1) :* v 1)) (v 2 :- v 1) refl)) (difference_pos c.low c.high c.above);
    }
