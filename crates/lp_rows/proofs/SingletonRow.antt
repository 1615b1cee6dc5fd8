-- Rows with one entry.
use Rattle.std.proofs.Common.{◌≡◌, ◌≢◌, ℕ, ◌<◌, pos, sym, refl, ap, ◌∙◌, [], ◌∷◌, inl, inr, subst, Option, Some, Bool, true, false, not, ◌&&◌}
use Rattle.std.specs.Prelude.{if◌then◌else◌}
use Rattle.std.proofs.lemmas.Bool.{and_parts, or_cases}
use Rattle.fractions.specs.Ring.{ring, v, num, ◌:+◌, ◌:-◌, ◌:*◌}
use Rattle.fractions.specs.Number.{Number, rational, zero_ℚ, ◌+ℚ◌, ◌-ℚ◌, ◌*ℚ◌}
use Rattle.fractions.specs.Order.{◌<ℚ◌, <ℚ-≤ℚ, <ℚ-not}
use Rattle.fractions.specs.Compare.{lt_ℚ}
use Rattle.fractions.specs.Division.{◌/ℚ◌}
use Rattle.fractions.specs.Total.{put}
use Rattle.fractions.specs.Ends.{Between, over, same_end}
use Rattle.fractions.proofs.Totals.{put-same, put-other, at_or_off, total_same, total-zero, total-put}
use Rattle.fractions.specs.Signs.{over-times}
use Rattle.fractions.proofs.EndLaws.{meet_low-is, meet_high-is, same_end-is}
use Rattle.lp_model.specs.declared.program.Sense.{Sense}
use Rattle.lp_model.specs.declared.program.Sense.TheVariants.{Min}
use Rattle.lp_model.specs.Vectors.{Vector}
use Rattle.lp_model.specs.LinearProgram.{LinearProgram, value_at, Feasible}
use Rattle.lp_model.specs.Reductions.{Reduces, Priced, ReducesPairs}
use Rattle.lp_model.specs.Edits.{with_bounds}
use Rattle.lp_theory.proofs.ActivityLaws.{lt_true}
use Rattle.lp_theory.proofs.Carrying.{Carries, pairs_of, carries_same_z}
use Rattle.lp_theory.proofs.Pairs.{undo_row, moved, bounded, row_pairs, transfer, not_below}
use Rattle.lp_theory.proofs.Steps.{compose_same, redundant_row, same_bounds}
use Rattle.lp_rows.proofs.SetMultiplier.{set_from_zero}
use Rattle.lp_rows.specs.SingletonRow.{IsSingletonRow, lower_over, upper_over, met_lower, met_upper, singleton_row_met, is_from_row, undo_singleton_row}
use Rattle.lp_theory.proofs.MetEndLaws.{below_zero, sides_in, sides_out, over_is, quotient_up, quotient_up', quotient_down, quotient_down', meet_low_one, meet_high_one, new_end, and_false, or_false, lt_is}

-- ---- the value of the row
value_one : (M : LinearProgram) (i j : ℕ) (x : Vector) → IsSingletonRow M i j → value_at M i x ≡ M.coefficient i j *ℚ x j
value_one M i j x r =
    total_same M.columns (λ k. M.coefficient i k *ℚ x k) (put (λ k. zero_ℚ) j (M.coefficient i j *ℚ x j))
    (at_or_off (λ k. k < M.columns → M.coefficient i k *ℚ x k ≡ put (λ k. zero_ℚ) j (M.coefficient i j *ℚ x j) k) j
    (λ l. sym (put-same (λ k. zero_ℚ) j (M.coefficient i j *ℚ x j)))
    (λ k n l. ap (λ c. c *ℚ x k) (r.only k l n) ∙ ring rational (x k ∷ []) (num (pos 0) :* v 0) (num (pos 0)) refl ∙ sym (put-other (λ k. zero_ℚ) j (M.coefficient i j *ℚ x j) k n)))
    ∙ total-put M.columns (λ k. zero_ℚ) j (M.coefficient i j *ℚ x j) r.column
    ∙ ap (λ t. t -ℚ zero_ℚ +ℚ M.coefficient i j *ℚ x j) (total-zero M.columns (λ k. zero_ℚ) (λ k l. refl))
    ∙ ring rational ((M.coefficient i j *ℚ x j) ∷ []) (num (pos 0) :- num (pos 0) :+ v 0) (v 0) refl

-- ---- points
module _ (M : LinearProgram) (i j : ℕ) (r : IsSingletonRow M i j) where
  abbrev met : LinearProgram
  met = with_bounds M j (met_lower M i j) (met_upper M i j)

  bounds : (x : Vector) → Between (put M.lower_bound j (met_lower M i j) j) (put M.upper_bound j (met_upper M i j) j) (x j) → Between (met_lower M i j) (met_upper M i j) (x j)
  bounds x b = rw (put-same M.lower_bound, put-same M.upper_bound) at b

  bounded_first : (d : Sense) → Reduces d M met (λ x. x) zero_ℚ
  bounded_first d = same_bounds d M j (met_lower M i j) (met_upper M i j)
      (λ x h m. let b = bounds x (h.columns j m) in record { low = ((meet_low-is (M.lower_bound j) _ (x j)).0 b.low).0; high = ((meet_high-is (M.upper_bound j) _ (x j)).0 b.high).0 })
      (λ x h m. let b = sides_in (M.coefficient i j) (x j) (M.lower_side i) (M.upper_side i) r.entry (subst (Between (M.lower_side i) (M.upper_side i)) (value_one M i j x r) (h.rows i r.row)) in
      record { low = (meet_low-is (M.lower_bound j) _ (x j)).1 ((h.columns j m).low, b.low); high = (meet_high-is (M.upper_bound j) _ (x j)).1 ((h.columns j m).high, b.high) })

  dropped_then : (d : Sense) → Reduces d met (singleton_row_met M i j) (λ x. x) zero_ℚ
  dropped_then d = redundant_row d met i (λ x h. let b = bounds x (h.columns j r.column) in
      subst (Between (M.lower_side i) (M.upper_side i)) (sym (value_one M i j x r))
      (sides_out (M.coefficient i j) (x j) (M.lower_side i) (M.upper_side i) r.entry
      (record { low = ((meet_low-is (M.lower_bound j) _ (x j)).0 b.low).1; high = ((meet_high-is (M.upper_bound j) _ (x j)).0 b.high).1 })))

  pub singleton_row : (d : Sense) → Reduces d M (singleton_row_met M i j) (λ x. x) zero_ℚ
  singleton_row d = compose_same d M met (singleton_row_met M i j) (bounded_first d) (dropped_then d)

-- ---- pairs
module _ (M : LinearProgram) (i j : ℕ) (r : IsSingletonRow M i j) where
  abbrev low : ℕ → Option Number
  low = put M.lower_bound j (met_lower M i j)

  abbrev high : ℕ → Option Number
  high = put M.upper_bound j (met_upper M i j)

  abbrev a : Number
  a = M.coefficient i j

  -- what the row leaves of the reduced costs: nothing at j, all elsewhere
  left_here : (z : Vector) → z j -ℚ M.coefficient i j *ℚ (z j /ℚ M.coefficient i j) ≡ zero_ℚ
  left_here z = ap (λ c. z j -ℚ c) (over-times (M.coefficient i j) (z j) r.entry) ∙ ring rational (z j ∷ []) (v 0 :- v 0) (num (pos 0)) refl

  left_there : (z : Vector) (d : Number) (k : ℕ) → k < M.columns → k ≢ j → z k -ℚ M.coefficient i k *ℚ d ≡ z k
  left_there z d k l n = ap (λ c. z k -ℚ c *ℚ d) (r.only k l n) ∙ ring rational (z k ∷ d ∷ []) (v 0 :- num (pos 0) :* v 1) (v 0) refl

  -- the row takes z_j over, where its side of that sign is met
  taken_over : (p : Priced) → Carries (bounded M low high) p → Feasible M p.x
      → (zero_ℚ <ℚ (p.z j /ℚ M.coefficient i j) → M.lower_side i ≡ Some (value_at M i p.x)) → ((p.z j /ℚ M.coefficient i j) <ℚ zero_ℚ → M.upper_side i ≡ Some (value_at M i p.x))
      → Carries M (moved i (M.coefficient i) (p.z j /ℚ M.coefficient i j) p)
  taken_over p h f pl ph = transfer M low high i (p.z j /ℚ M.coefficient i j) p r.row h f pl ph
      (at_or_off (λ k. k < M.columns → zero_ℚ <ℚ (p.z k -ℚ M.coefficient i k *ℚ (p.z j /ℚ M.coefficient i j)) → M.lower_bound k ≡ Some (p.x k)) j
      (λ l q. absurd (not_below (subst (λ c. zero_ℚ <ℚ c) (left_here p.z) q)))
      (λ k n l q. sym (put-other M.lower_bound j (met_lower M i j) k n) ∙ h.at_low k l (subst (λ c. zero_ℚ <ℚ c) (left_there p.z (p.z j /ℚ M.coefficient i j) k l n) q)))
      (at_or_off (λ k. k < M.columns → (p.z k -ℚ M.coefficient i k *ℚ (p.z j /ℚ M.coefficient i j)) <ℚ zero_ℚ → M.upper_bound k ≡ Some (p.x k)) j
      (λ l q. absurd (not_below (subst (λ c. c <ℚ zero_ℚ) (left_here p.z) q)))
      (λ k n l q. sym (put-other M.upper_bound j (met_upper M i j) k n) ∙ h.at_high k l (subst (λ c. c <ℚ zero_ℚ) (left_there p.z (p.z j /ℚ M.coefficient i j) k l n) q)))

  side_met : (o : Option Number) (x : Vector) → over o (M.coefficient i j) ≡ Some (x j) → o ≡ Some (value_at M i x)
  side_met o x e = over_is o (M.coefficient i j) (x j) r.entry e ∙ ap Some (sym (value_one M i j x r))

  low_taken : (p : Priced) → Carries (bounded M low high) p → Feasible M p.x → zero_ℚ <ℚ p.z j → lower_over (M.coefficient i j) (M.lower_side i) (M.upper_side i) ≡ Some (p.x j)
      → Carries M (moved i (M.coefficient i) (p.z j /ℚ M.coefficient i j) p)
  low_taken p h f z = by (lt_ℚ zero_ℚ (M.coefficient i j)) refl
    where
      by : (t : Bool) → lt_ℚ zero_ℚ (M.coefficient i j) ≡ t → (if t then over (M.lower_side i) (M.coefficient i j) else over (M.upper_side i) (M.coefficient i j)) ≡ Some (p.x j)
          → Carries M (moved i (M.coefficient i) (p.z j /ℚ M.coefficient i j) p)
      by true e q = taken_over p h f (λ k. side_met (M.lower_side i) p.x q) (λ k. absurd (<ℚ-not k (quotient_up (M.coefficient i j) (p.z j) (lt_true zero_ℚ (M.coefficient i j) e) (<ℚ-≤ℚ z))))
      by false e q = taken_over p h f (λ k. absurd (<ℚ-not k (quotient_down' (M.coefficient i j) (p.z j) (below_zero (M.coefficient i j) e r.entry) (<ℚ-≤ℚ z)))) (λ k. side_met (M.upper_side i) p.x q)

  high_taken : (p : Priced) → Carries (bounded M low high) p → Feasible M p.x → p.z j <ℚ zero_ℚ → upper_over (M.coefficient i j) (M.lower_side i) (M.upper_side i) ≡ Some (p.x j)
      → Carries M (moved i (M.coefficient i) (p.z j /ℚ M.coefficient i j) p)
  high_taken p h f z = by (lt_ℚ zero_ℚ (M.coefficient i j)) refl
    where
      by : (t : Bool) → lt_ℚ zero_ℚ (M.coefficient i j) ≡ t → (if t then over (M.upper_side i) (M.coefficient i j) else over (M.lower_side i) (M.coefficient i j)) ≡ Some (p.x j)
          → Carries M (moved i (M.coefficient i) (p.z j /ℚ M.coefficient i j) p)
      by true e q = taken_over p h f (λ k. absurd (<ℚ-not k (quotient_down (M.coefficient i j) (p.z j) (lt_true zero_ℚ (M.coefficient i j) e) (<ℚ-≤ℚ z)))) (λ k. side_met (M.upper_side i) p.x q)
      by false e q = taken_over p h f (λ k. side_met (M.lower_side i) p.x q) (λ k. absurd (<ℚ-not k (quotient_up' (M.coefficient i j) (p.z j) (below_zero (M.coefficient i j) e r.entry) (<ℚ-≤ℚ z))))

  -- the same in the words of the undoing: y_i is set and z_j is 0
  as_set : (p : Priced) → Carries M (moved i (M.coefficient i) (p.z j /ℚ M.coefficient i j) (undo_row i p))
      → Carries M (record { x = p.x; y = put p.y i (p.z j /ℚ M.coefficient i j); z = put p.z j zero_ℚ })
  as_set p c = carries_same_z M p.x _ (λ k. p.z k -ℚ M.coefficient i k *ℚ (p.z j /ℚ M.coefficient i j)) (put p.z j zero_ℚ)
      (at_or_off (λ k. k < M.columns → put p.z j zero_ℚ k ≡ p.z k -ℚ M.coefficient i k *ℚ (p.z j /ℚ M.coefficient i j)) j
      (λ l. put-same p.z j zero_ℚ ∙ sym (left_here p.z))
      (λ k n l. put-other p.z j zero_ℚ k n ∙ sym (left_there p.z (p.z j /ℚ M.coefficient i j) k l n)))
      (subst (λ (y : Vector). Carries M (record { x = p.x; y = y; z = λ k. p.z k -ℚ M.coefficient i k *ℚ (p.z j /ℚ M.coefficient i j) })) (set_from_zero p.y i (p.z j /ℚ M.coefficient i j)) c)

  -- z_j stays where it is held by an old bound
  kept : (p : Priced) → Carries (bounded M low high) (undo_row i p) → Feasible M p.x → is_from_row (M.lower_bound j) (M.upper_bound j) (p.x j) (p.z j) ≡ false → Carries M (undo_row i p)
  kept p h f e = let q = or_false (lt_ℚ zero_ℚ (p.z j) && not (same_end (M.lower_bound j) (Some (p.x j)))) (lt_ℚ (p.z j) zero_ℚ && not (same_end (M.upper_bound j) (Some (p.x j)))) e in record {
    continuous = h.continuous;
    feasible = f;
    left = h.left;
    pays_low = h.pays_low;
    pays_high = h.pays_high;
    at_low = at_or_off (λ k. k < M.columns → zero_ℚ <ℚ p.z k → M.lower_bound k ≡ Some (p.x k)) j
        (λ m z. (same_end-is (M.lower_bound j) (Some (p.x j))).0 (and_false _ _ q.0 (lt_is _ _ z)))
        (λ k n m z. sym (put-other M.lower_bound j (met_lower M i j) k n) ∙ h.at_low k m z);
    at_high = at_or_off (λ k. k < M.columns → p.z k <ℚ zero_ℚ → M.upper_bound k ≡ Some (p.x k)) j
        (λ m z. (same_end-is (M.upper_bound j) (Some (p.x j))).0 (and_false _ _ q.1 (lt_is _ _ z)))
        (λ k n m z. sym (put-other M.upper_bound j (met_upper M i j) k n) ∙ h.at_high k m z);
  }

  changed_over : (p : Priced) → Carries (bounded M low high) (undo_row i p) → Feasible M p.x → is_from_row (M.lower_bound j) (M.upper_bound j) (p.x j) (p.z j) ≡ true
      → Carries M (moved i (M.coefficient i) (p.z j /ℚ M.coefficient i j) (undo_row i p))
  changed_over p h f e = elim (or_cases (lt_ℚ zero_ℚ (p.z j) && not (same_end (M.lower_bound j) (Some (p.x j)))) (lt_ℚ (p.z j) zero_ℚ && not (same_end (M.upper_bound j) (Some (p.x j)))) e) [
    | inl q ↦ let b = and_parts (lt_ℚ zero_ℚ (p.z j)) (not (same_end (M.lower_bound j) (Some (p.x j)))) q in let z = lt_true _ _ b.0 in
        low_taken (undo_row i p) h f z (new_end (M.lower_bound j) _ (p.x j) (meet_low_one (M.lower_bound j) _ (p.x j) (sym (put-same M.lower_bound j (met_lower M i j)) ∙ h.at_low j r.column z)) b.1)
    | inr q ↦ let b = and_parts (lt_ℚ (p.z j) zero_ℚ) (not (same_end (M.upper_bound j) (Some (p.x j)))) q in let z = lt_true _ _ b.0 in
        high_taken (undo_row i p) h f z (new_end (M.upper_bound j) _ (p.x j) (meet_high_one (M.upper_bound j) _ (p.x j) (sym (put-same M.upper_bound j (met_upper M i j)) ∙ h.at_high j r.column z)) b.1)
  ]

  undone : (p : Priced) → Carries (singleton_row_met M i j) p → Carries M (undo_singleton_row i j (M.coefficient i j) (M.lower_bound j) (M.upper_bound j) p)
  undone p h = by (is_from_row (M.lower_bound j) (M.upper_bound j) (p.x j) (p.z j)) refl
    where
      f : Feasible M p.x
      f = (singleton_row M i j r Min).lifts p.x h.feasible

      g : Carries (bounded M low high) (undo_row i p)
      g = (row_pairs (met M i j r) i (dropped_then M i j r Min).lifts).carries p h

      by : (t : Bool) → is_from_row (M.lower_bound j) (M.upper_bound j) (p.x j) (p.z j) ≡ t
          → Carries M (if t then record p { y = put p.y i (p.z j /ℚ M.coefficient i j); z = put p.z j zero_ℚ } else record p { y = put p.y i zero_ℚ })
      by true e = as_set p (changed_over p g f e)
      by false e = kept p g f e

  pub singleton_row_pairs : ReducesPairs Min M (singleton_row_met M i j) (undo_singleton_row i j (M.coefficient i j) (M.lower_bound j) (M.upper_bound j))
  singleton_row_pairs = pairs_of M (singleton_row_met M i j) _ (record { carries = undone })
