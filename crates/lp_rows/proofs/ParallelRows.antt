-- Rows of which one is a multiple of the other.
use Rattle.std.proofs.Common.{◌≡◌, ◌≢◌, ℕ, ◌<◌, pos, sym, refl, ap, ap₂, ◌∙◌, [], ◌∷◌, inl, inr, subst, Option, Some, None, Bool, true, false, not, ◌&&◌}
use Rattle.std.specs.Prelude.{if◌then◌else◌}
use Rattle.std.proofs.lemmas.Bool.{and_parts, or_cases}
use Rattle.fractions.specs.Ring.{ring, v, num, ◌:+◌, ◌:-◌, ◌:*◌}
use Rattle.fractions.specs.Number.{Number, rational, zero_ℚ, ◌+ℚ◌, ◌-ℚ◌, ◌*ℚ◌}
use Rattle.fractions.specs.Order.{◌<ℚ◌, <ℚ-≤ℚ, <ℚ-not}
use Rattle.fractions.specs.Compare.{lt_ℚ}
use Rattle.fractions.specs.Division.{◌/ℚ◌}
use Rattle.fractions.specs.Total.{total, put}
use Rattle.fractions.specs.Ends.{Between, over, same_end}
use Rattle.fractions.proofs.Totals.{put-same, put-other, at_or_off, total_same, total-*, total-put_factor}
use Rattle.fractions.specs.Signs.{over-times}
use Rattle.fractions.proofs.EndLaws.{meet_low-is, meet_high-is, same_end-is}
use Rattle.lp_model.specs.declared.program.Sense.{Sense}
use Rattle.lp_model.specs.declared.program.Sense.TheVariants.{Min}
use Rattle.lp_model.specs.Vectors.{Vector}
use Rattle.lp_model.specs.LinearProgram.{LinearProgram, value_at, Feasible}
use Rattle.lp_model.specs.Senses.{Sits}
use Rattle.lp_model.specs.Optimality.{reduced_cost}
use Rattle.lp_model.specs.Reductions.{Reduces, Priced, ReducesPairs}
use Rattle.lp_model.specs.Edits.{with_sides}
use Rattle.lp_theory.specs.MetEnds.{lower_over, upper_over, is_from_row}
use Rattle.lp_theory.proofs.ActivityLaws.{lt_true}
use Rattle.lp_theory.proofs.Carrying.{Carries, pairs_of}
use Rattle.lp_theory.proofs.MetEndLaws.{below_zero, sides_in, sides_out, over_is, quotient_up, quotient_up', quotient_down, quotient_down', meet_low_one, meet_high_one, new_end, and_false, or_false, lt_is}
use Rattle.lp_theory.proofs.Pairs.{undo_row, row_pairs, not_below}
use Rattle.lp_theory.proofs.Steps.{compose_same, redundant_row, same_sides, value-without_row}
use Rattle.lp_rows.specs.ParallelRows.{AreParallelRows, shared_lower, shared_upper, parallel_rows_joined, undo_parallel_rows}

module _ (M : LinearProgram) (i k : ℕ) (s : Number) (d : AreParallelRows M i k s) where
  -- row k with the shared sides, beside row i
  abbrev shared : LinearProgram
  shared = with_sides M k (shared_lower M i k s) (shared_upper M i k s)

  abbrev low : Option Number
  low = lower_over s (M.lower_side i) (M.upper_side i)

  abbrev high : Option Number
  high = upper_over s (M.lower_side i) (M.upper_side i)

  k_off_i : k ≢ i
  k_off_i e = d.apart (sym e)

  value_times : (x : Vector) → value_at M i x ≡ s *ℚ value_at M k x
  value_times x =
      total_same M.columns _ (λ j. s *ℚ (M.coefficient k j *ℚ x j)) (λ j l. ap (λ c. c *ℚ x j) (d.times j l) ∙ ring rational (s ∷ M.coefficient k j ∷ x j ∷ []) (v 0 :* v 1 :* v 2) (v 0 :* (v 1 :* v 2)) refl)
      ∙ total-* M.columns s (λ j. M.coefficient k j *ℚ x j)

  -- ---- points
  both : (x : Vector) → Between (put M.lower_side k (shared_lower M i k s) k) (put M.upper_side k (shared_upper M i k s) k) (value_at M k x) → Between (M.lower_side k) (M.upper_side k) (value_at M k x) × Between low high (value_at M k x)
  both x h =
      let b : Between (shared_lower M i k s) (shared_upper M i k s) (value_at M k x) = rw (put-same M.lower_side, put-same M.upper_side) at h in
      let l = (meet_low-is (M.lower_side k) low (value_at M k x)).0 b.low in
      let u = (meet_high-is (M.upper_side k) high (value_at M k x)).0 b.high in
      (record { low = l.0; high = u.0 }, record { low = l.1; high = u.1 })

  shared_first : (t : Sense) → Reduces t M shared (λ x. x) zero_ℚ
  shared_first t = same_sides t M k (shared_lower M i k s) (shared_upper M i k s)
      (λ x h r. (both x (h.rows k r)).0)
      (λ x h r. let b = sides_in s (value_at M k x) (M.lower_side i) (M.upper_side i) d.factor (subst (Between (M.lower_side i) (M.upper_side i)) (value_times x) (h.rows i d.row)) in
      record { low = (meet_low-is (M.lower_side k) low (value_at M k x)).1 ((h.rows k r).low, b.low); high = (meet_high-is (M.upper_side k) high (value_at M k x)).1 ((h.rows k r).high, b.high) })

  -- row k where row i is deleted
  row_k : (x : Vector) → Feasible (parallel_rows_joined M i k s) x → Between (put M.lower_side k (shared_lower M i k s) k) (put M.upper_side k (shared_upper M i k s) k) (value_at M k x)
  row_k x h = rw (← put-other (put M.lower_side k (shared_lower M i k s)) i None k k_off_i, ← put-other (put M.upper_side k (shared_upper M i k s)) i None k k_off_i)
      (subst (Between ((parallel_rows_joined M i k s).lower_side k) ((parallel_rows_joined M i k s).upper_side k)) (value-without_row shared i k x k_off_i) (h.rows k d.other))

  dropped_then : (t : Sense) → Reduces t shared (parallel_rows_joined M i k s) (λ x. x) zero_ℚ
  dropped_then t = redundant_row t shared i (λ x h. rw (put-other M.lower_side k (shared_lower M i k s) i d.apart, put-other M.upper_side k (shared_upper M i k s) i d.apart)
      (subst (Between (M.lower_side i) (M.upper_side i)) (sym (value_times x)) (sides_out s (value_at M k x) (M.lower_side i) (M.upper_side i) d.factor (both x (row_k x h)).1)))

  pub parallel_rows : (t : Sense) → Reduces t M (parallel_rows_joined M i k s) (λ x. x) zero_ℚ
  parallel_rows t = compose_same t M shared (parallel_rows_joined M i k s) (shared_first t) (dropped_then t)

  -- ---- pairs
  -- y_k rows of k are y_k / s rows of i
  reduced_put : (y : Vector) (r : ℕ) (c : Number) (j : ℕ) → r < M.rows → reduced_cost M (put y r c) j ≡ reduced_cost M y j -ℚ M.coefficient r j *ℚ (c -ℚ y r)
  reduced_put y r c j l =
      ap (λ t. M.costs j -ℚ t) (total-put_factor M.rows y (λ m. M.coefficient m j) r c l)
      ∙ ring rational (M.costs j ∷ total M.rows (λ m. y m *ℚ M.coefficient m j) ∷ y r ∷ c ∷ M.coefficient r j ∷ []) (v 0 :- (v 1 :+ (v 3 :- v 2) :* v 4)) (v 0 :- v 1 :- v 4 :* (v 3 :- v 2)) refl

  same_reduced : (y : Vector) (j : ℕ) → j < M.columns → y i ≡ zero_ℚ → reduced_cost M (put (put y k zero_ℚ) i (y k /ℚ s)) j ≡ reduced_cost M y j
  same_reduced y j l z =
      reduced_put (put y k zero_ℚ) i (y k /ℚ s) j d.row
      ∙ ap₂ (λ c e. c -ℚ M.coefficient i j *ℚ ((y k /ℚ s) -ℚ e)) (reduced_put y k zero_ℚ j d.other) (put-other y k zero_ℚ i d.apart ∙ z)
      ∙ ap (λ c. reduced_cost M y j -ℚ M.coefficient k j *ℚ (zero_ℚ -ℚ y k) -ℚ c *ℚ ((y k /ℚ s) -ℚ zero_ℚ)) (d.times j l)
      ∙ ring rational (reduced_cost M y j ∷ M.coefficient k j ∷ y k ∷ s ∷ (y k /ℚ s) ∷ []) (v 0 :- v 1 :* (num (pos 0) :- v 2) :- v 3 :* v 1 :* (v 4 :- num (pos 0))) (v 0 :+ v 1 :* (v 2 :- v 3 :* v 4)) refl
      ∙ ap (λ c. reduced_cost M y j +ℚ M.coefficient k j *ℚ (y k -ℚ c)) (over-times s (y k) d.factor)
      ∙ ring rational (reduced_cost M y j ∷ M.coefficient k j ∷ y k ∷ []) (v 0 :+ v 1 :* (v 2 :- v 2)) (v 0) refl

  -- the multiplier of row i, where the shared end came from it
  low_taken : (y : Number) (x : Vector) → zero_ℚ <ℚ y → low ≡ Some (value_at M k x) → Sits Min (M.lower_side i) (M.upper_side i) (value_at M i x) (y /ℚ s)
  low_taken y x p = by (lt_ℚ zero_ℚ s) refl
    where
      by : (t : Bool) → lt_ℚ zero_ℚ s ≡ t → (if t then over (M.lower_side i) s else over (M.upper_side i) s) ≡ Some (value_at M k x) → Sits Min (M.lower_side i) (M.upper_side i) (value_at M i x) (y /ℚ s)
      by true e q = ((λ h. over_is _ s _ d.factor q ∙ ap Some (sym (value_times x))), λ h. absurd (<ℚ-not h (quotient_up s y (lt_true _ _ e) (<ℚ-≤ℚ p))))
      by false e q = ((λ h. absurd (<ℚ-not h (quotient_down' s y (below_zero _ e d.factor) (<ℚ-≤ℚ p)))), λ h. over_is _ s _ d.factor q ∙ ap Some (sym (value_times x)))

  high_taken : (y : Number) (x : Vector) → y <ℚ zero_ℚ → high ≡ Some (value_at M k x) → Sits Min (M.lower_side i) (M.upper_side i) (value_at M i x) (y /ℚ s)
  high_taken y x p = by (lt_ℚ zero_ℚ s) refl
    where
      by : (t : Bool) → lt_ℚ zero_ℚ s ≡ t → (if t then over (M.upper_side i) s else over (M.lower_side i) s) ≡ Some (value_at M k x) → Sits Min (M.lower_side i) (M.upper_side i) (value_at M i x) (y /ℚ s)
      by true e q = ((λ h. absurd (<ℚ-not h (quotient_down s y (lt_true _ _ e) (<ℚ-≤ℚ p)))), λ h. over_is _ s _ d.factor q ∙ ap Some (sym (value_times x)))
      by false e q = ((λ h. over_is _ s _ d.factor q ∙ ap Some (sym (value_times x))), λ h. absurd (<ℚ-not h (quotient_up' s y (below_zero _ e d.factor) (<ℚ-≤ℚ p))))

  abbrev came : Priced → Bool
  came p = is_from_row (M.lower_side k) (M.upper_side k) (value_at M k p.x) (p.y k)

  taken : (p : Priced) → Carries shared p → came p ≡ true → Sits Min (M.lower_side i) (M.upper_side i) (value_at M i p.x) (p.y k /ℚ s)
  taken p h e = elim (or_cases (lt_ℚ zero_ℚ (p.y k) && not (same_end (M.lower_side k) (Some (value_at M k p.x)))) (lt_ℚ (p.y k) zero_ℚ && not (same_end (M.upper_side k) (Some (value_at M k p.x)))) e) [
    | inl c ↦ let q = and_parts (lt_ℚ zero_ℚ (p.y k)) (not (same_end (M.lower_side k) (Some (value_at M k p.x)))) c in let g = lt_true _ _ q.0 in
        low_taken (p.y k) p.x g (new_end (M.lower_side k) low (value_at M k p.x) (meet_low_one (M.lower_side k) low (value_at M k p.x) (sym (put-same M.lower_side k (shared_lower M i k s)) ∙ h.pays_low k d.other g)) q.1)
    | inr c ↦ let q = and_parts (lt_ℚ (p.y k) zero_ℚ) (not (same_end (M.upper_side k) (Some (value_at M k p.x)))) c in let g = lt_true _ _ q.0 in
        high_taken (p.y k) p.x g (new_end (M.upper_side k) high (value_at M k p.x) (meet_high_one (M.upper_side k) high (value_at M k p.x) (sym (put-same M.upper_side k (shared_upper M i k s)) ∙ h.pays_high k d.other g)) q.1)
  ]

  -- a multiplier of 0 is held anywhere
  sits_zero : (l u : Option Number) (x : Number) → Sits Min l u x zero_ℚ
  sits_zero l u x = ((λ q. absurd (not_below q)), λ q. absurd (not_below q))

  -- off row k the shared sides are the old ones
  sits_off : (p : Priced) → Carries shared p → (m : ℕ) → m ≢ k → m < M.rows → Sits Min (M.lower_side m) (M.upper_side m) (value_at M m p.x) (p.y m)
  sits_off p h m n l = ((λ q. sym (put-other M.lower_side k (shared_lower M i k s) m n) ∙ h.pays_low m l q), λ q. sym (put-other M.upper_side k (shared_upper M i k s) m n) ∙ h.pays_high m l q)

  changed_over : (p : Priced) → Carries shared p → p.y i ≡ zero_ℚ → came p ≡ true → Carries M (record p { y = put (put p.y k zero_ℚ) i (p.y k /ℚ s) })
  changed_over p h z e =
      let sits : (m : ℕ) → m < M.rows → Sits Min (M.lower_side m) (M.upper_side m) (value_at M m p.x) (put (put p.y k zero_ℚ) i (p.y k /ℚ s) m) =
      at_or_off (λ m. m < M.rows → Sits Min (M.lower_side m) (M.upper_side m) (value_at M m p.x) (put (put p.y k zero_ℚ) i (p.y k /ℚ s) m)) i
      (λ l. subst (Sits Min (M.lower_side i) (M.upper_side i) (value_at M i p.x)) (sym (put-same (put p.y k zero_ℚ) i (p.y k /ℚ s))) (taken p h e))
      (λ m n l. subst (Sits Min (M.lower_side m) (M.upper_side m) (value_at M m p.x)) (sym (put-other (put p.y k zero_ℚ) i (p.y k /ℚ s) m n))
      (at_or_off (λ m. m < M.rows → Sits Min (M.lower_side m) (M.upper_side m) (value_at M m p.x) (put p.y k zero_ℚ m)) k
      (λ l. subst (Sits Min (M.lower_side k) (M.upper_side k) (value_at M k p.x)) (sym (put-same p.y k zero_ℚ)) (sits_zero (M.lower_side k) (M.upper_side k) (value_at M k p.x)))
      (λ m n l. subst (Sits Min (M.lower_side m) (M.upper_side m) (value_at M m p.x)) (sym (put-other p.y k zero_ℚ m n)) (sits_off p h m n l)) m l)) in
      record {
        continuous = h.continuous;
        feasible = (shared_first Min).lifts p.x h.feasible;
        left = λ j l. h.left j l ∙ sym (same_reduced p.y j l z);
        pays_low = λ m l. (sits m l).0;
        pays_high = λ m l. (sits m l).1;
        at_low = h.at_low;
        at_high = h.at_high;
      }

  kept : (p : Priced) → Carries shared p → came p ≡ false → Carries M p
  kept p h e =
      let q = or_false (lt_ℚ zero_ℚ (p.y k) && not (same_end (M.lower_side k) (Some (value_at M k p.x)))) (lt_ℚ (p.y k) zero_ℚ && not (same_end (M.upper_side k) (Some (value_at M k p.x)))) e in
      record {
        continuous = h.continuous;
        feasible = (shared_first Min).lifts p.x h.feasible;
        left = h.left;
        pays_low = at_or_off (λ m. m < M.rows → zero_ℚ <ℚ p.y m → M.lower_side m ≡ Some (value_at M m p.x)) k
            (λ l g. (same_end-is (M.lower_side k) (Some (value_at M k p.x))).0 (and_false _ _ q.0 (lt_is _ _ g)))
            (λ m n l. (sits_off p h m n l).0);
        pays_high = at_or_off (λ m. m < M.rows → p.y m <ℚ zero_ℚ → M.upper_side m ≡ Some (value_at M m p.x)) k
            (λ l g. (same_end-is (M.upper_side k) (Some (value_at M k p.x))).0 (and_false _ _ q.1 (lt_is _ _ g)))
            (λ m n l. (sits_off p h m n l).1);
        at_low = h.at_low;
        at_high = h.at_high;
      }

  -- the undoing does not look at y_i
  as_set : (y : Vector) → put (put (put y i zero_ℚ) k zero_ℚ) i (put y i zero_ℚ k /ℚ s) ≡ put (put y k zero_ℚ) i (y k /ℚ s)
  as_set y t m = at_or_off (λ m. put (put (put y i zero_ℚ) k zero_ℚ) i (put y i zero_ℚ k /ℚ s) m ≡ put (put y k zero_ℚ) i (y k /ℚ s) m) i
      (put-same (put (put y i zero_ℚ) k zero_ℚ) i (put y i zero_ℚ k /ℚ s) ∙ ap (λ c. c /ℚ s) (put-other y i zero_ℚ k k_off_i) ∙ sym (put-same (put y k zero_ℚ) i (y k /ℚ s)))
      (λ m n. put-other (put (put y i zero_ℚ) k zero_ℚ) i (put y i zero_ℚ k /ℚ s) m n
      ∙ at_or_off (λ m. m ≢ i → put (put y i zero_ℚ) k zero_ℚ m ≡ put y k zero_ℚ m) k
      (λ n. put-same (put y i zero_ℚ) k zero_ℚ ∙ sym (put-same y k zero_ℚ))
      (λ m o n. put-other (put y i zero_ℚ) k zero_ℚ m o ∙ put-other y i zero_ℚ m n ∙ sym (put-other y k zero_ℚ m o)) m n
      ∙ sym (put-other (put y k zero_ℚ) i (y k /ℚ s) m n)) m t

  undone : (p : Priced) → Carries (parallel_rows_joined M i k s) p → Carries M (undo_parallel_rows M.columns i k s (M.lower_side k) (M.upper_side k) (M.coefficient k) p)
  undone p c = by (came p) refl
    where
      h : Carries shared (undo_row i p)
      h = (row_pairs shared i (dropped_then Min).lifts).carries p c

      came_same : came (undo_row i p) ≡ came p
      came_same = ap (is_from_row (M.lower_side k) (M.upper_side k) (value_at M k p.x)) (put-other p.y i zero_ℚ k k_off_i)

      by : (t : Bool) → came p ≡ t → Carries M (if t then record p { y = put (put p.y k zero_ℚ) i (p.y k /ℚ s) } else record p { y = put p.y i zero_ℚ })
      by true e = subst (λ (y : Vector). Carries M (record p { y = y })) (as_set p.y) (changed_over (undo_row i p) h (put-same p.y i zero_ℚ) (came_same ∙ e))
      by false e = kept (undo_row i p) h (came_same ∙ e)

  pub parallel_rows_pairs : ReducesPairs Min M (parallel_rows_joined M i k s) (undo_parallel_rows M.columns i k s (M.lower_side k) (M.upper_side k) (M.coefficient k))
  parallel_rows_pairs = pairs_of M (parallel_rows_joined M i k s) _ (record { carries = undone })
