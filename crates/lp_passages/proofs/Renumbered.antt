-- The written program has the same points and pairs as the program with original ids.
use Rattle.std.proofs.Common.{◌≡◌, ℕ, zero, ◌<◌, List, [], ◌∷◌, length, slice_index, pos, sym, refl, ap, ap₂, ◌∙◌, inl, inr, subst, Option, None, false, IsTrue}
use Rattle.fractions.specs.Ring.{ring, v, num, ◌:-◌, ◌:*◌}
use Rattle.fractions.specs.Number.{Number, rational, zero_ℚ, ◌+ℚ◌, ◌-ℚ◌, ◌*ℚ◌}
use Rattle.fractions.specs.Order.{◌<ℚ◌, ≤ℚ_antisym, ≤ℚ_cases}
use Rattle.fractions.specs.Ends.{Between}
use Rattle.fractions.specs.Floor.{IsWhole}
use Rattle.fractions.proofs.Totals.{total_same, total-zero}
use Rattle.lp_model.specs.declared.program.Sense.{Sense}
use Rattle.lp_model.specs.declared.program.Sense.TheVariants.{Min, Max}
use Rattle.lp_model.specs.Vectors.{Vector}
use Rattle.lp_model.specs.LinearProgram.{LinearProgram, value_at, cost_at, Feasible}
use Rattle.lp_model.specs.Senses.{Sits}
use Rattle.lp_model.specs.Optimality.{reduced_cost, Meets}
use Rattle.lp_model.specs.Reductions.{Reduces, ReducesPairs}
use Rattle.lp_passages.specs.Renumbering.{IsLeftOut, written, IsRest, gathered, spread, gathered_pair, spread_pair}
use Rattle.lp_passages.proofs.Ids.{ids-at, each_id, spread-at, spread-off, total-ids}
use Rattle.lp_theory.proofs.Pairs.{not_below}
use Rattle.lp_theory.proofs.Steps.{no_worse_same, plus_zero}
use Rattle.lp_model.specs.Gaps.{Clears}
use Rattle.lp_theory.proofs.GapSteps.{solid}

zero_times : (a b : Number) → a ≡ zero_ℚ → a *ℚ b ≡ zero_ℚ
zero_times a b e = ap (λ c. c *ℚ b) e ∙ ring rational (b ∷ []) (num (pos 0) :* v 0) (num (pos 0)) refl

pub sits_zero : (s : Sense) (l u : Option Number) (w m : Number) → m ≡ zero_ℚ → Sits s l u w m
sits_zero Min l u w m e = ((λ h. absurd (not_below (subst (λ a. zero_ℚ <ℚ a) e h))), λ h. absurd (not_below (subst (λ a. a <ℚ zero_ℚ) e h)))
sits_zero Max l u w m e = ((λ h. absurd (not_below (subst (λ a. a <ℚ zero_ℚ) e h))), λ h. absurd (not_below (subst (λ a. zero_ℚ <ℚ a) e h)))

-- a multiplier of what has no ends is 0
no_ends : (s : Sense) (l u : Option Number) (w m : Number) → l ≡ None → u ≡ None → Sits s l u w m → m ≡ zero_ℚ
no_ends Min l u w m el eu h = elim (≤ℚ_cases m zero_ℚ) [
  | inr p ↦ absurd (let e = h.0 p in cc)
  | inl p ↦ elim (≤ℚ_cases zero_ℚ m) [ inl q ↦ ≤ℚ_antisym p q | inr q ↦ absurd (let e = h.1 q in cc) ]
]
no_ends Max l u w m el eu h = elim (≤ℚ_cases m zero_ℚ) [
  | inr p ↦ absurd (let e = h.1 p in cc)
  | inl p ↦ elim (≤ℚ_cases zero_ℚ m) [ inl q ↦ ≤ℚ_antisym p q | inr q ↦ absurd (let e = h.0 q in cc) ]
]

module _ (M : LinearProgram) (rows columns : List ℕ) (r : IsRest M rows columns) where
  -- ---- sums
  pub value-gathered : (a : ℕ) (x : Vector) → value_at M (slice_index rows a) x ≡ value_at (written M rows columns) a (gathered columns x)
  value-gathered a x = total-ids columns M.columns (λ k. M.coefficient (slice_index rows a) k *ℚ x k) r.columns_ascend
      (λ k l o. zero_times (M.coefficient (slice_index rows a) k) (x k) (r.no_coefficient (slice_index rows a) k l o))

  pub value-spread : (a : ℕ) (x : Vector) → value_at M (slice_index rows a) (spread columns x) ≡ value_at (written M rows columns) a x
  value-spread a x = value-gathered a (spread columns x)
      ∙ total_same (length columns) _ _ (λ b l. ap (λ w. M.coefficient (slice_index rows a) (slice_index columns b) *ℚ w) (spread-at columns zero M.columns b x r.columns_ascend l))

  pub cost-gathered : (x : Vector) → cost_at M x ≡ cost_at (written M rows columns) (gathered columns x)
  cost-gathered x = ap (λ t. t +ℚ M.constant) (total-ids columns M.columns (λ k. M.costs k *ℚ x k) r.columns_ascend (λ k l o. zero_times (M.costs k) (x k) (r.no_cost k l o)))

  pub cost-spread : (x : Vector) → cost_at M (spread columns x) ≡ cost_at (written M rows columns) x
  cost-spread x = cost-gathered (spread columns x)
      ∙ ap (λ t. t +ℚ M.constant) (total_same (length columns) _ _ (λ b l. ap (λ w. M.costs (slice_index columns b) *ℚ w) (spread-at columns zero M.columns b x r.columns_ascend l)))

  -- ---- points
  pub feasible_spread : (x : Vector) → Feasible (written M rows columns) x → Feasible M (spread columns x)
  feasible_spread x h = record {
    rows = each_id (λ i. Between (M.lower_side i) (M.upper_side i) (value_at M i (spread columns x))) rows M.rows
        (λ a l. subst (Between (M.lower_side (slice_index rows a)) (M.upper_side (slice_index rows a))) (sym (value-spread a x)) (h.rows a l))
        (λ i l o. rw (r.no_lower_side i l o, r.no_upper_side i l o) (record { low = tt; high = tt }));
    columns = each_id (λ j. Between (M.lower_bound j) (M.upper_bound j) (spread columns x j)) columns M.columns
        (λ b l. subst (Between (M.lower_bound (slice_index columns b)) (M.upper_bound (slice_index columns b))) (sym (spread-at columns zero M.columns b x r.columns_ascend l)) (h.columns b l))
        (λ j l o. rw (r.no_lower_bound j l o, r.no_upper_bound j l o) (record { low = tt; high = tt }));
    whole = each_id (λ j. IsTrue (M.whole j) → IsWhole (spread columns x j)) columns M.columns
        (λ b l t. subst IsWhole (sym (spread-at columns zero M.columns b x r.columns_ascend l)) (h.whole b l t))
        (λ j l o t. absurd (let f = r.not_whole j l o in cc));
    gaps = each_id (λ j. Clears (M.gap j) (spread columns x j)) columns M.columns
        (λ b l. subst (Clears (M.gap (slice_index columns b))) (sym (spread-at columns zero M.columns b x r.columns_ascend l)) (h.gaps b l))
        (λ j l o. solid (M.gap j) (spread columns x j) (r.no_gap j l o));
  }

  pub feasible_gathered : (x : Vector) → Feasible M x → Feasible (written M rows columns) (gathered columns x)
  feasible_gathered x h = record {
    rows = λ a l. subst (Between (M.lower_side (slice_index rows a)) (M.upper_side (slice_index rows a))) (value-gathered a x) (h.rows (slice_index rows a) (ids-at rows zero M.rows a r.rows_ascend l).1);
    columns = λ b l. h.columns (slice_index columns b) (ids-at columns zero M.columns b r.columns_ascend l).1;
    whole = λ b l. h.whole (slice_index columns b) (ids-at columns zero M.columns b r.columns_ascend l).1;
    gaps = λ b l. h.gaps (slice_index columns b) (ids-at columns zero M.columns b r.columns_ascend l).1;
  }

  pub reduces_to_written : (s : Sense) → Reduces s M (written M rows columns) (spread columns) zero_ℚ
  reduces_to_written s = record {
    lifts = feasible_spread;
    costs = λ x h. cost-spread x ∙ plus_zero (cost_at (written M rows columns) x);
    keeps = λ w h. (gathered columns w, feasible_gathered w h, no_worse_same s _ _ (sym (cost-gathered w ∙ plus_zero (cost_at (written M rows columns) (gathered columns w)))));
  }

  pub written_reduces_to : (s : Sense) → Reduces s (written M rows columns) M (gathered columns) zero_ℚ
  written_reduces_to s = record {
    lifts = feasible_gathered;
    costs = λ x h. sym (cost-gathered x) ∙ plus_zero (cost_at M x);
    keeps = λ w h. (spread columns w, feasible_spread w h, no_worse_same s _ _ (sym (sym (cost-spread w) ∙ plus_zero (cost_at M (spread columns w)))));
  }

  -- ---- pairs
  reduced-spread : (y : Vector) (b : ℕ) → reduced_cost M (spread rows y) (slice_index columns b) ≡ reduced_cost (written M rows columns) y b
  reduced-spread y b = ap (λ t. M.costs (slice_index columns b) -ℚ t)
      (total-ids rows M.rows (λ i. spread rows y i *ℚ M.coefficient i (slice_index columns b)) r.rows_ascend (λ i l o. zero_times (spread rows y i) _ (spread-off rows i y o))
      ∙ total_same (length rows) _ _ (λ a l. ap (λ w. w *ℚ M.coefficient (slice_index rows a) (slice_index columns b)) (spread-at rows zero M.rows a y r.rows_ascend l)))

  reduced-off : (y : Vector) (j : ℕ) → j < M.columns → IsLeftOut j columns → reduced_cost M y j ≡ zero_ℚ
  reduced-off y j l o = ap₂ (λ c t. c -ℚ t) (r.no_cost j l o)
      (total-zero M.rows (λ i. y i *ℚ M.coefficient i j) (λ i m. ap (λ c. y i *ℚ c) (r.no_coefficient i j l o) ∙ ring rational (y i ∷ []) (v 0 :* num (pos 0)) (num (pos 0)) refl))
      ∙ ring rational [] (num (pos 0) :- num (pos 0)) (num (pos 0)) refl

  pub pairs_to_written : (s : Sense) → ReducesPairs s M (written M rows columns) (spread_pair rows columns)
  pairs_to_written s = record {
    priced = λ p i m. each_id (λ j. spread columns p.z j ≡ reduced_cost M (spread rows p.y) j) columns M.columns
        (λ b l. spread-at columns zero M.columns b p.z r.columns_ascend l ∙ i b l ∙ sym (reduced-spread p.y b))
        (λ j l o. spread-off columns j p.z o ∙ sym (reduced-off (spread rows p.y) j l o));
    meets = λ p i m. record {
      continuous = each_id (λ j. (M.whole j ≡ false) × (M.gap j ≡ None)) columns M.columns (λ b l. m.continuous b l) (λ j l o. (r.not_whole j l o, r.no_gap j l o));
      feasible = feasible_spread p.x m.feasible;
      rows = each_id (λ i. Sits s (M.lower_side i) (M.upper_side i) (value_at M i (spread columns p.x)) (spread rows p.y i)) rows M.rows
          (λ a l. rw (value-spread a p.x, spread-at rows zero M.rows a p.y r.rows_ascend l) (m.rows a l))
          (λ i l o. sits_zero s _ _ _ _ (spread-off rows i p.y o));
      columns = each_id (λ j. Sits s (M.lower_bound j) (M.upper_bound j) (spread columns p.x j) (reduced_cost M (spread rows p.y) j)) columns M.columns
          (λ b l. rw (spread-at columns zero M.columns b p.x r.columns_ascend l, reduced-spread p.y b) (m.columns b l))
          (λ j l o. sits_zero s _ _ _ _ (reduced-off (spread rows p.y) j l o));
    };
  }

  reduced-gathered : (s : Sense) (x y : Vector) → Meets s M x y → (b : ℕ) → reduced_cost M y (slice_index columns b) ≡ reduced_cost (written M rows columns) (gathered rows y) b
  reduced-gathered s x y m b = ap (λ t. M.costs (slice_index columns b) -ℚ t)
      (total-ids rows M.rows (λ i. y i *ℚ M.coefficient i (slice_index columns b)) r.rows_ascend
      (λ i l o. zero_times (y i) _ (no_ends s (M.lower_side i) (M.upper_side i) (value_at M i x) (y i) (r.no_lower_side i l o) (r.no_upper_side i l o) (m.rows i l))))

  pub pairs_from_written : (s : Sense) → ReducesPairs s (written M rows columns) M (gathered_pair rows columns)
  pairs_from_written s = record {
    priced = λ p i m b l. i (slice_index columns b) (ids-at columns zero M.columns b r.columns_ascend l).1 ∙ reduced-gathered s p.x p.y m b;
    meets = λ p i m. record {
      continuous = λ b l. m.continuous (slice_index columns b) (ids-at columns zero M.columns b r.columns_ascend l).1;
      feasible = feasible_gathered p.x m.feasible;
      rows = λ a l. subst (λ w. Sits s (M.lower_side (slice_index rows a)) (M.upper_side (slice_index rows a)) w (p.y (slice_index rows a))) (value-gathered a p.x) (m.rows (slice_index rows a) (ids-at rows zero M.rows a r.rows_ascend l).1);
      columns = λ b l. subst (λ w. Sits s (M.lower_bound (slice_index columns b)) (M.upper_bound (slice_index columns b)) (p.x (slice_index columns b)) w) (reduced-gathered s p.x p.y m b) (m.columns (slice_index columns b) (ids-at columns zero M.columns b r.columns_ascend l).1);
    };
  }
