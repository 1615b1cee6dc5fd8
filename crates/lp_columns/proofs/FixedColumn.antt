-- A column whose bounds are one number.
use Rattle.std.proofs.Common.{◌≡◌, ◌≢◌, ℕ, ◌<◌, sym, refl, ap, ap₂, ◌∙◌, [], ◌∷◌, subst, Option, Some, None, false, IsTrue}
use Rattle.fractions.specs.Ring.{ring, v, ◌:+◌, ◌:-◌}
use Rattle.fractions.specs.Number.{Number, rational, zero_ℚ, ◌+ℚ◌, ◌-ℚ◌, ◌*ℚ◌}
use Rattle.fractions.specs.Order.{◌<ℚ◌, ≤ℚ_refl}
use Rattle.fractions.specs.Floor.{IsWhole}
use Rattle.fractions.specs.Total.{total, put}
use Rattle.fractions.specs.Ends.{Between, less}
use Rattle.fractions.proofs.Totals.{put-same, put-other, at_or_off, total_same, total-put_both}
use Rattle.fractions.proofs.EndLaws.{less-low, less-high}
use Rattle.lp_model.specs.declared.program.Sense.{Sense}
use Rattle.lp_model.specs.declared.program.Sense.TheVariants.{Min}
use Rattle.lp_model.specs.Vectors.{Vector}
use Rattle.lp_model.specs.LinearProgram.{LinearProgram, value_at, cost_at, Feasible}
use Rattle.lp_model.specs.Optimality.{Continuous, reduced_cost}
use Rattle.lp_model.specs.Reductions.{Reduces, Priced, ReducesPairs}
use Rattle.lp_model.specs.Edits.{without_column}
use Rattle.lp_theory.proofs.Carrying.{Carries, pairs_of}
use Rattle.lp_theory.proofs.Pairs.{some_inj}
use Rattle.lp_theory.proofs.Steps.{no_worse_same}
use Rattle.lp_columns.proofs.Held.{pinned}
use Rattle.lp_columns.specs.FixedColumn.{IsFixedColumn, fixed_column_deleted, fixed_column_offset, undo_fixed_column, undo_fixed_column_pair}
use Rattle.lp_theory.proofs.GapSteps.{gaps_moved, gaps_off, gaps_back}

less_out : (l u : Option Number) (c w : Number) → Between (less l c) (less u c) w → Between l u (w +ℚ c)
less_out l u c w b = record { low = (less-low l c w).0 b.low; high = (less-high u c w).0 b.high }

less_in : (l u : Option Number) (c w : Number) → Between l u (w +ℚ c) → Between (less l c) (less u c) w
less_in l u c w b = record { low = (less-low l c w).1 b.low; high = (less-high u c w).1 b.high }

less_some : (o : Option Number) (c w : Number) → less o c ≡ Some w → o ≡ Some (w +ℚ c)
less_some None c w e = cc
less_some (Some b) c w e = ap Some (ring rational (b ∷ c ∷ []) (v 0) (v 0 :- v 1 :+ v 1) refl ∙ ap (λ a. a +ℚ c) (some_inj e))

put_back : (x : Vector) (j : ℕ) (b : Number) → x j ≡ b → put x j b ≡ x
put_back x j b e t k = at_or_off (λ k. put x j b k ≡ x k) j (put-same x j b ∙ sym e) (put-other x j b) k t

module _ (M : LinearProgram) (j : ℕ) (b : Number) (f : IsFixedColumn M j b) where
  cost-fixed : (x : Vector) → cost_at M (put x j b) ≡ cost_at (without_column M j b) x +ℚ M.costs j *ℚ b
  cost-fixed x = ap (λ s. s +ℚ M.constant) (total-put_both M.columns M.costs x j b f.column)
      ∙ ring rational (total M.columns (λ k. put M.costs j zero_ℚ k *ℚ x k) ∷ M.constant ∷ (M.costs j *ℚ b) ∷ []) (v 0 :+ v 2 :+ v 1) (v 0 :+ v 1 :+ v 2) refl

  value-fixed : (i : ℕ) (x : Vector) → value_at M i (put x j b) ≡ value_at (without_column M j b) i x +ℚ M.coefficient i j *ℚ b
  value-fixed i x = total-put_both M.columns (M.coefficient i) x j b f.column

  there : (x : Vector) → Feasible (without_column M j b) x → Feasible M (put x j b)
  there x h = record {
    rows = λ i r. subst (Between (M.lower_side i) (M.upper_side i)) (sym (value-fixed i x)) (less_out (M.lower_side i) (M.upper_side i) (M.coefficient i j *ℚ b) (value_at (without_column M j b) i x) (h.rows i r));
    columns = at_or_off (λ k. k < M.columns → Between (M.lower_bound k) (M.upper_bound k) (put x j b k)) j
        (λ c. rw (put-same x, f.lower, f.upper) (record { low = ≤ℚ_refl b; high = ≤ℚ_refl b }))
        (λ k n c. rw (put-other x j b k n, ← put-other M.lower_bound j None k n, ← put-other M.upper_bound j None k n) (h.columns k c));
    whole = at_or_off (λ k. k < M.columns → IsTrue (M.whole k) → IsWhole (put x j b k)) j
        (λ c w. rw (put-same x) (f.whole w))
        (λ k n c w. rw (put-other x j b k n) (h.whole k c (put-other M.whole j false k n ∙ w)));
    gaps = gaps_moved M j x b f.solid (gaps_back M j x f.solid h.gaps);
  }

  value_of_j : (w : Vector) → Feasible M w → w j ≡ b
  value_of_j w h = pinned (w j) b (rw (f.lower, f.upper) at (h.columns j f.column))

  back : (w : Vector) → Feasible M w → Feasible (without_column M j b) w
  back w h = record {
    rows = λ i r. less_in (M.lower_side i) (M.upper_side i) (M.coefficient i j *ℚ b) (value_at (without_column M j b) i w)
        (subst (Between (M.lower_side i) (M.upper_side i)) (ap (value_at M i) (sym (put_back w j b (value_of_j w h))) ∙ value-fixed i w) (h.rows i r));
    columns = at_or_off (λ k. k < M.columns → Between (put M.lower_bound j None k) (put M.upper_bound j None k) (w k)) j
        (λ c. rw (put-same M.lower_bound, put-same M.upper_bound) (record { low = tt; high = tt }))
        (λ k n c. rw (put-other M.lower_bound j None k n, put-other M.upper_bound j None k n) (h.columns k c));
    whole = at_or_off (λ k. k < M.columns → IsTrue (put M.whole j false k) → IsWhole (w k)) j
        (λ c e. absurd (let g = put-same M.whole j false in cc))
        (λ k n c e. h.whole k c (sym (put-other M.whole j false k n) ∙ e));
    gaps = gaps_off M j w h.gaps;
  }

  pub fixed_column : (d : Sense) → Reduces d M (fixed_column_deleted M j b) (undo_fixed_column j b) (fixed_column_offset M j b)
  fixed_column d = record {
    lifts = there;
    costs = λ x h. cost-fixed x;
    keeps = λ w h. (w, back w h, no_worse_same d _ _ (sym (cost-fixed w) ∙ ap (cost_at M) (put_back w j b (value_of_j w h))));
  }

  reduced-fixed : (y : Vector) (k : ℕ) → k ≢ j → reduced_cost (without_column M j b) y k ≡ reduced_cost M y k
  reduced-fixed y k n = ap₂ (λ c t. c -ℚ t) (put-other M.costs j zero_ℚ k n) (total_same M.rows (λ p. y p *ℚ put (M.coefficient p) j zero_ℚ k) (λ p. y p *ℚ M.coefficient p k) (λ p l. ap (λ a. y p *ℚ a) (put-other (M.coefficient p) j zero_ℚ k n)))

  undone : Continuous M → (p : Priced) → Carries (without_column M j b) p → Carries M (undo_fixed_column_pair M j b p)
  undone continuous p h = record {
    continuous = continuous;
    feasible = there p.x h.feasible;
    left = at_or_off (λ k. k < M.columns → put p.z j (reduced_cost M p.y j) k ≡ reduced_cost M p.y k) j
        (λ m. put-same p.z j (reduced_cost M p.y j))
        (λ k n m. put-other p.z j (reduced_cost M p.y j) k n ∙ h.left k m ∙ reduced-fixed p.y k n);
    pays_low = λ i l q. less_some (M.lower_side i) (M.coefficient i j *ℚ b) _ (h.pays_low i l q) ∙ ap Some (sym (value-fixed i p.x));
    pays_high = λ i l q. less_some (M.upper_side i) (M.coefficient i j *ℚ b) _ (h.pays_high i l q) ∙ ap Some (sym (value-fixed i p.x));
    at_low = at_or_off (λ k. k < M.columns → zero_ℚ <ℚ put p.z j (reduced_cost M p.y j) k → M.lower_bound k ≡ Some (put p.x j b k)) j
        (λ m q. f.lower ∙ ap Some (sym (put-same p.x j b)))
        (λ k n m q. sym (put-other M.lower_bound j None k n) ∙ h.at_low k m (subst (λ z. zero_ℚ <ℚ z) (put-other p.z j (reduced_cost M p.y j) k n) q) ∙ ap Some (sym (put-other p.x j b k n)));
    at_high = at_or_off (λ k. k < M.columns → put p.z j (reduced_cost M p.y j) k <ℚ zero_ℚ → M.upper_bound k ≡ Some (put p.x j b k)) j
        (λ m q. f.upper ∙ ap Some (sym (put-same p.x j b)))
        (λ k n m q. sym (put-other M.upper_bound j None k n) ∙ h.at_high k m (subst (λ z. z <ℚ zero_ℚ) (put-other p.z j (reduced_cost M p.y j) k n) q) ∙ ap Some (sym (put-other p.x j b k n)));
  }

  pub fixed_column_pairs : Continuous M → ReducesPairs Min M (fixed_column_deleted M j b) (undo_fixed_column_pair M j b)
  fixed_column_pairs c = pairs_of M (without_column M j b) _ (record { carries = undone c })
