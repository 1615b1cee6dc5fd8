-- The free column singleton: points and pairs.
use Rattle.std.proofs.Common.{◌≡◌, ◌≢◌, ℕ, ◌<◌, pos, sym, refl, ap, ap₂, ◌∙◌, [], ◌∷◌, subst, Option, Some, None, Bool, true, false}
use Rattle.std.specs.Prelude.{if◌then◌else◌}
use Rattle.fractions.specs.Ring.{ring, v, num, ◌:+◌, ◌:-◌, ◌:*◌}
use Rattle.fractions.specs.Number.{Number, rational, zero_ℚ, ◌+ℚ◌, ◌-ℚ◌, ◌*ℚ◌}
use Rattle.fractions.specs.Order.{≤ℚ_refl, ≤ℚ_trans, ≤ℚ-by, <ℚ-≤ℚ, <ℚ-not}
use Rattle.fractions.specs.Compare.{lt_ℚ}
use Rattle.fractions.specs.Division.{◌/ℚ◌}
use Rattle.fractions.specs.Total.{put}
use Rattle.fractions.specs.Ends.{AtLeast, AtMost, Between, same_end, minus_ends, LowBelow, HighAbove}
use Rattle.fractions.proofs.Totals.{put-same, put-other, at_or_off, total_same}
use Rattle.fractions.specs.Signs.{≤ℚ-same, over-times}
use Rattle.fractions.proofs.EndLaws.{same_end-is}
use Rattle.lp_model.specs.declared.program.Sense.TheVariants.{Min}
use Rattle.lp_model.specs.Vectors.{Vector}
use Rattle.lp_model.specs.LinearProgram.{LinearProgram, value_at, cost_at, Feasible}
use Rattle.lp_model.specs.Optimality.{reduced_cost}
use Rattle.lp_model.specs.Senses.{Sits}
use Rattle.lp_model.specs.Reductions.{Reduces, Priced, ReducesPairs}
use Rattle.lp_theory.specs.Activities.{InBounds, least_rest, greatest_rest}
use Rattle.lp_theory.specs.Elsewhere.{column_put_into_row}
use Rattle.lp_theory.specs.Nearest.{InOrder}
use Rattle.lp_theory.proofs.ActivityLaws.{lt_true, rest, least_rest-off, greatest_rest-off}
use Rattle.lp_theory.proofs.Carrying.{Carries, pairs_of}
use Rattle.lp_theory.proofs.Elsewhere.{left_out, minus_low, minus_high, value_here, cost_by_row, cost_of_others, point_back, rows_of_others, bounds_of_others, whole_others, gaps_of_others, reduced_here, reduced_there, pair_back}
use Rattle.lp_theory.proofs.MetEndLaws.{sides_in}
use Rattle.lp_theory.proofs.Sitting.{zero_sits, pinned_sits, sits_least, row_sits, column_sits}
use Rattle.lp_theory.proofs.Steps.{value-without_row}
use Rattle.lp_substitutions.specs.FreeColumnSingleton.{cheapest_side, implied_lower, implied_upper, IsFreeColumnSingleton, free_column_singleton_deleted, free_column_singleton_offset, free_column_singleton_point, free_column_singleton_pair}

-- ---- ends
low_from : (p q : Option Number) (x : Number) → LowBelow p q → AtLeast q x → AtLeast p x
low_from None q x h k = tt
low_from (Some a) None x h k = absurd h
low_from (Some a) (Some b) x h k = ≤ℚ_trans h k

high_from : (p q : Option Number) (x : Number) → HighAbove p q → AtMost q x → AtMost p x
high_from None q x h k = tt
high_from (Some a) None x h k = absurd h
high_from (Some a) (Some b) x h k = ≤ℚ_trans k h

-- ---- the cheapest side
at_lower : (L U : Option Number) (s : Number) → InOrder L U → L ≡ Some s → Between L U s
at_lower L U s o e = record { low = subst (λ q. AtLeast q s) (sym e) (≤ℚ_refl s); high = subst (λ q. InOrder q U) e o }

at_upper : (L U : Option Number) (s : Number) → InOrder L U → U ≡ Some s → Between L U s
at_upper None U s o e = record { low = tt; high = subst (λ q. AtMost q s) (sym e) (≤ℚ_refl s) }
at_upper (Some l) U s o e = record { low = subst (λ q. AtMost q l) e o; high = subst (λ q. AtMost q s) (sym e) (≤ℚ_refl s) }

cheapest_sits : (t s : Number) (L U : Option Number) → InOrder L U → cheapest_side t L U ≡ Some s → Between L U s × Sits Min L U s t
cheapest_sits t s L U o = by (same_end L U) (lt_ℚ zero_ℚ t) (lt_ℚ t zero_ℚ) refl refl refl
  where
    by : (p q r : Bool) → same_end L U ≡ p → lt_ℚ zero_ℚ t ≡ q → lt_ℚ t zero_ℚ ≡ r → (if p then L else if q then L else if r then U else None) ≡ Some s → Between L U s × Sits Min L U s t
    by true q r f g h e = (at_lower L U s o e, pinned_sits L U s s t e (sym ((same_end-is L U).0 f) ∙ e) refl)
    by false true r f g h e = (at_lower L U s o e, ((λ k. e), λ k. absurd (<ℚ-not k (<ℚ-≤ℚ (lt_true zero_ℚ t g)))))
    by false false true f g h e = (at_upper L U s o e, ((λ k. absurd (<ℚ-not k (<ℚ-≤ℚ (lt_true t zero_ℚ h)))), λ k. e))
    by false false false f g h e = cc

module _ (M : LinearProgram) (j i : ℕ) (s : Number) (d : IsFreeColumnSingleton M j i s) where
  abbrev a : Number
  a = M.coefficient i j

  abbrev t : Number
  t = M.costs j /ℚ M.coefficient i j

  abbrev P : LinearProgram
  P = column_put_into_row M j i

  abbrev R : LinearProgram
  R = free_column_singleton_deleted M j i

  abbrev b : Vector → Number
  b x = (s -ℚ value_at P i x) /ℚ a

  side : Between (M.lower_side i) (M.upper_side i) s × Sits Min (M.lower_side i) (M.upper_side i) s t
  side = cheapest_sits t s (M.lower_side i) (M.upper_side i) d.sides d.side

  row_value : (x : Vector) → a *ℚ b x +ℚ value_at P i x ≡ s
  row_value x = ap (λ c. c +ℚ value_at P i x) (over-times a (s -ℚ value_at P i x) d.singleton.entry) ∙ ring rational (s ∷ value_at P i x ∷ []) (v 0 :- v 1 :+ v 1) (v 0) refl

  -- ---- points
  rest_is : (x : Vector) → value_at P i x ≡ rest M i j x
  rest_is x = total_same M.columns _ _ (λ k l. at_or_off (λ k. put (M.coefficient i) j zero_ℚ k *ℚ x k ≡ put (λ k. M.coefficient i k *ℚ x k) j zero_ℚ k) j
      (ap (λ c. c *ℚ x j) (put-same (M.coefficient i) j zero_ℚ) ∙ ring rational (x j ∷ []) (num (pos 0) :* v 0) (num (pos 0)) refl ∙ sym (put-same (λ k. M.coefficient i k *ℚ x k) j zero_ℚ))
      (λ k n. ap (λ c. c *ℚ x k) (put-other (M.coefficient i) j zero_ℚ k n) ∙ sym (put-other (λ k. M.coefficient i k *ℚ x k) j zero_ℚ k n)) k)

  others_bounded : (x : Vector) → InBounds P x → (k : ℕ) → k ≢ j → k < M.columns → Between (M.lower_bound k) (M.upper_bound k) (x k)
  others_bounded x h k n l = rw (← put-other M.lower_bound j None k n, ← put-other M.upper_bound j None k n) (h k l)

  -- the row implies j's bounds
  column_bounded : (x : Vector) → InBounds P x → Between (M.lower_bound j) (M.upper_bound j) (b x)
  column_bounded x h =
      let is : a *ℚ b x +ℚ rest M i j x ≡ s = subst (λ c. a *ℚ b x +ℚ c ≡ s) (rest_is x) (row_value x) in
      let low = minus_low (Some s) (greatest_rest M i j) (rest M i j x) (a *ℚ b x) (≤ℚ-same (sym is)) (greatest_rest-off M i j x (others_bounded x h)) in
      let high = minus_high (Some s) (least_rest M i j) (rest M i j x) (a *ℚ b x) (≤ℚ-same is) (least_rest-off M i j x (others_bounded x h)) in
      let f = sides_in a (b x) (minus_ends (Some s) (greatest_rest M i j)) (minus_ends (Some s) (least_rest M i j)) d.singleton.entry (record { low = low; high = high }) in
      record { low = low_from (M.lower_bound j) (implied_lower M j i s) (b x) d.lower f.low; high = high_from (M.upper_bound j) (implied_upper M j i s) (b x) d.upper f.high }

  lifted : (x : Vector) → Feasible R x → Feasible M (put x j (b x))
  lifted x h = point_back M j i d.singleton x (b x)
      (λ m n l. rw (← put-other M.lower_side i None m n, ← put-other M.upper_side i None m n, ← value-without_row P i m x n) (h.rows m l))
      h.columns h.whole h.gaps (column_bounded x h.columns) (subst (Between (M.lower_side i) (M.upper_side i)) (sym (row_value x)) side.0)

  kept : (w : Vector) → Feasible M w → Feasible R w
  kept w h = record {
    rows = at_or_off (λ m. m < M.rows → Between (R.lower_side m) (R.upper_side m) (value_at R m w)) i
        (λ l. rw (put-same M.lower_side, put-same M.upper_side) (record { low = tt; high = tt }))
        (λ m n l. rw (put-other M.lower_side i None m n, put-other M.upper_side i None m n, value-without_row P i m w n) (rows_of_others M j i d.singleton w h m n l));
    columns = bounds_of_others M j i d.singleton w h;
    whole = whole_others M j i d.singleton w h;
    gaps = gaps_of_others M j i d.singleton w h;
  }

  cost_lifted : (x : Vector) → cost_at M (put x j (b x)) ≡ cost_at R x +ℚ t *ℚ s
  cost_lifted x = cost_by_row M j i d.singleton (put x j (b x))
      ∙ ap₂ (λ c q. c +ℚ t *ℚ q) (cost_of_others M j i d.singleton x (b x)) (value_here M j i d.singleton x (b x) ∙ row_value x)

  pub free_column_singleton_reduces : Reduces Min M R (free_column_singleton_point M j i s) (free_column_singleton_offset M j i s)
  free_column_singleton_reduces = record {
    lifts = lifted;
    costs = λ x h. cost_lifted x;
    keeps = λ w h. (
      w,
      kept w h,
      ≤ℚ-by (t *ℚ s) (t *ℚ value_at M i w) (cost_at R w +ℚ t *ℚ s) (cost_at M w)
          (ring rational ((t *ℚ s) ∷ (t *ℚ value_at M i w) ∷ cost_at R w ∷ []) (v 1 :- v 0) ((v 2 :+ v 1) :- (v 2 :+ v 0)) refl ∙ ap (λ c. c -ℚ (cost_at R w +ℚ t *ℚ s)) (sym (cost_by_row M j i d.singleton w)))
          (sits_least (M.lower_side i) (M.upper_side i) s (value_at M i w) t side.1 (h.rows i d.singleton.row)),
    );
  }

  -- ---- pairs
  reduced_others : (y : Vector) (k : ℕ) → k ≢ j → reduced_cost R y k ≡ reduced_cost M (put y i t) k
  reduced_others y k n =
      ap (λ c. R.costs k -ℚ c) (left_out M.rows i y (λ m. R.coefficient m k) (λ m. P.coefficient m k) (ap (λ (f : Vector). f k) (put-same P.coefficient i (λ p. zero_ℚ))) (λ m e. ap (λ (f : Vector). f k) (put-other P.coefficient i (λ p. zero_ℚ) m e)))
      ∙ reduced_there M j i d.singleton y zero_ℚ k n
      ∙ ap (λ c. reduced_cost M (put y i c) k) (ring rational (t ∷ []) (num (pos 0) :+ v 0) (v 0) refl)

  reduced_first : (y : Vector) → zero_ℚ ≡ reduced_cost M (put y i t) j
  reduced_first y = ring rational (M.costs j ∷ []) (num (pos 0)) (v 0 :- v 0) refl
      ∙ ap (λ c. M.costs j -ℚ c) (sym (over-times a (M.costs j) d.singleton.entry) ∙ ring rational (a ∷ t ∷ []) (v 0 :* v 1) (v 1 :* v 0) refl ∙ ap (λ c. c *ℚ a) (sym (put-same y i t)))
      ∙ sym (reduced_here M j i d.singleton (put y i t))

  undone : (p : Priced) → Carries R p → Carries M (free_column_singleton_pair M j i s p)
  undone p h = pair_back M j i d.singleton p (b p.x) t zero_ℚ h.continuous (lifted p.x h.feasible)
      (λ k n l. h.left k l ∙ reduced_others p.y k n)
      (reduced_first p.y)
      (λ m n l. rw (put-other M.lower_side i None m n, put-other M.upper_side i None m n, value-without_row P i m p.x n) at (row_sits R p h m l))
      (column_sits R p h)
      (subst (λ c. Sits Min (M.lower_side i) (M.upper_side i) c t) (sym (row_value p.x)) side.1)
      (zero_sits (M.lower_bound j) (M.upper_bound j) (b p.x) zero_ℚ refl)

  pub free_column_singleton_pairs : ReducesPairs Min M R (free_column_singleton_pair M j i s)
  free_column_singleton_pairs = pairs_of M R (free_column_singleton_pair M j i s) (record { carries = undone })
