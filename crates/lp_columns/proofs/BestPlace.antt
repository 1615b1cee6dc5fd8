-- A column fixed at its best place.
use Rattle.std.proofs.Common.{◌≡◌, ℕ, ◌<◌, pos, sym, refl, ap, [], ◌∷◌, subst, Option, Some, None, IsTrue}
use Rattle.fractions.specs.Ring.{ring, v, num, ◌:+◌, ◌:-◌, ◌:*◌}
use Rattle.fractions.specs.Number.{Number, rational, zero_ℚ, one_ℚ, ◌+ℚ◌, ◌-ℚ◌, ◌*ℚ◌}
use Rattle.fractions.specs.Order.{◌≤ℚ◌, ◌<ℚ◌, ≤ℚ_refl, ≤ℚ_antisym, ≤ℚ-by}
use Rattle.fractions.specs.Linear.{linear, fact, clash}
use Rattle.fractions.specs.Floor.{IsWhole}
use Rattle.fractions.specs.Total.{total, put}
use Rattle.fractions.specs.Ends.{Between}
use Rattle.fractions.proofs.Totals.{put-same, put-other, at_or_off, total-*, total-put_point}
use Rattle.fractions.specs.Signs.{≤ℚ-cancel, ≤ℚ-cancel_down}
use Rattle.lp_model.specs.declared.program.Sense.TheVariants.{Min}
use Rattle.lp_model.specs.Vectors.{Vector}
use Rattle.lp_model.specs.LinearProgram.{LinearProgram, value_at, cost_at, Feasible}
use Rattle.lp_model.specs.Reductions.{Reduces, ReducesPairs, Priced}
use Rattle.lp_theory.proofs.Carrying.{Carries, pairs_of}
use Rattle.lp_theory.proofs.Moves.{cost_moves}
use Rattle.lp_theory.proofs.Steps.{fewer_points}
use Rattle.lp_columns.specs.BestPlace.{IsBestAt, column_fixed_at}
use Rattle.lp_columns.proofs.Held.{held_back, held_pair}
use Rattle.lp_columns.proofs.Shifts.{less_than, at_least_more, at_most_less, dual_times_move, sum_not_negative}
use Rattle.lp_theory.proofs.GapSteps.{gaps_moved}

-- ---- a number b between ends, and a price z that no move to b raises, holds b at the end that the sign of z asks for
-- a price times a move
no_gain : (z b x : Number) → zero_ℚ <ℚ z → (z *ℚ (b -ℚ x)) ≤ℚ zero_ℚ → b ≤ℚ x
no_gain z b x p h = ≤ℚ-cancel z p (≤ℚ-by (z *ℚ (b -ℚ x)) zero_ℚ (z *ℚ b) (z *ℚ x) (ring rational (z ∷ b ∷ x ∷ []) (num (pos 0) :- v 0 :* (v 1 :- v 2)) (v 0 :* v 2 :- v 0 :* v 1) refl) h)

no_gain' : (z b x : Number) → z <ℚ zero_ℚ → (z *ℚ (b -ℚ x)) ≤ℚ zero_ℚ → x ≤ℚ b
no_gain' z b x p h = ≤ℚ-cancel_down z p (≤ℚ-by (z *ℚ (b -ℚ x)) zero_ℚ (z *ℚ b) (z *ℚ x) (ring rational (z ∷ b ∷ x ∷ []) (num (pos 0) :- v 0 :* (v 1 :- v 2)) (v 0 :* v 2 :- v 0 :* v 1) refl) h)

held_low : (l u : Option Number) (b z : Number) → Between l u b → zero_ℚ <ℚ z → ((x : Number) → Between l u x → (z *ℚ (b -ℚ x)) ≤ℚ zero_ℚ) → l ≡ Some b
held_low None u b z h p f = absurd (clash (b ∷ []) (fact 1 (v 0) (v 0 :- num (pos 1)) ∷ []) 0 (
  no_gain z b (b -ℚ one_ℚ) p (f (b -ℚ one_ℚ) (record {
    low = tt;
    high = at_most_less u b (b -ℚ one_ℚ) (linear (b ∷ []) [] 1 (v 0 :- num (pos 1)) (v 0) tt refl) h.high;
  })),
  tt,
) refl)
held_low (Some a) u b z h p f = ap Some (≤ℚ_antisym h.low (no_gain z b a p (f a (record { low = ≤ℚ_refl a; high = at_most_less u b a h.low h.high }))))

held_high : (l u : Option Number) (b z : Number) → Between l u b → z <ℚ zero_ℚ → ((x : Number) → Between l u x → (z *ℚ (b -ℚ x)) ≤ℚ zero_ℚ) → u ≡ Some b
held_high l None b z h p f = absurd (clash (b ∷ []) (fact 1 (v 0 :+ num (pos 1)) (v 0) ∷ []) 0 (
  no_gain' z b (b +ℚ one_ℚ) p (f (b +ℚ one_ℚ) (record {
    low = at_least_more l b (b +ℚ one_ℚ) (linear (b ∷ []) [] 1 (v 0) (v 0 :+ num (pos 1)) tt refl) h.low;
    high = tt;
  })),
  tt,
) refl)
held_high l (Some a) b z h p f = ap Some (≤ℚ_antisym (no_gain' z b a p (f a (record { low = at_least_more l b a h.high h.low; high = ≤ℚ_refl a }))) h.high)

module _ (M : LinearProgram) (j : ℕ) (b : Number) (f : IsBestAt M j b) where
  moved_there : (w : Vector) → Feasible M w → Feasible (column_fixed_at M j b) (put w j b)
  moved_there w h = record {
    rows = λ i l. subst (Between (M.lower_side i) (M.upper_side i)) (sym (total-put_point M.columns (M.coefficient i) w j b f.column))
        (f.rows i l (w j) (value_at M i w) (h.columns j f.column) (h.rows i l));
    columns = at_or_off (λ k. k < M.columns → Between (put M.lower_bound j (Some b) k) (put M.upper_bound j (Some b) k) (put w j b k)) j
        (λ m. rw (put-same M.lower_bound, put-same M.upper_bound, put-same w) (record { low = ≤ℚ_refl b; high = ≤ℚ_refl b }))
        (λ k n m. rw (put-other M.lower_bound j (Some b) k n, put-other M.upper_bound j (Some b) k n, put-other w j b k n) (h.columns k m));
    whole = at_or_off (λ k. k < M.columns → IsTrue (M.whole k) → IsWhole (put w j b k)) j
        (λ m e. rw (put-same w) (f.whole e))
        (λ k n m e. rw (put-other w j b k n) (h.whole k m e));
    gaps = gaps_moved M j w b f.solid h.gaps;
  }

  cheaper : (w : Vector) → Feasible M w → cost_at M (put w j b) ≤ℚ cost_at M w
  cheaper w h = subst (λ c. c ≤ℚ cost_at M w) (sym (cost_moves M j w b f.column)) (less_than (cost_at M w) (M.costs j *ℚ (b -ℚ w j)) (f.cheap (w j) (h.columns j f.column)))

  pub best_reduces : Reduces Min M (column_fixed_at M j b) (λ x. x) zero_ℚ
  best_reduces = fewer_points Min M (column_fixed_at M j b) (λ x. refl) (held_back M j b f.column f.within) (λ w h. (put w j b, moved_there w h, cheaper w h))

  -- what the duals leave of the column's cost doesn't fall where the column moves from b
  price_holds : (p : Priced) → Carries (column_fixed_at M j b) p → (x : Number) → Between (M.lower_bound j) (M.upper_bound j) x → (p.z j *ℚ (b -ℚ x)) ≤ℚ zero_ℚ
  price_holds p h x c =
      let d : Number = b -ℚ x in
      let moves : zero_ℚ ≤ℚ total M.rows (λ i. d *ℚ (p.y i *ℚ M.coefficient i j)) = sum_not_negative M.rows _ (λ i l.
      subst (λ q. zero_ℚ ≤ℚ q) (ring rational (p.y i ∷ M.coefficient i j ∷ d ∷ []) (v 0 :* (v 1 :* v 2)) (v 2 :* (v 0 :* v 1)) refl)
      (dual_times_move (M.lower_side i) (M.upper_side i) (value_at M i p.x) (M.coefficient i j *ℚ d) (p.y i) (h.pays_low i l) (h.pays_high i l) (f.rows i l x (value_at M i p.x) c (h.feasible.rows i l)))) in
      subst (λ q. (q *ℚ d) ≤ℚ zero_ℚ) (sym (h.left j f.column))
      (linear (M.costs j ∷ d ∷ total M.rows (λ i. p.y i *ℚ M.coefficient i j) ∷ []) (fact 1 (v 0 :* v 1) (num (pos 0)) ∷ fact 1 (num (pos 0)) (v 1 :* v 2) ∷ []) 0 ((v 0 :- v 2) :* v 1) (num (pos 0)) (f.cheap x c, (subst (λ q. zero_ℚ ≤ℚ q) (total-* M.rows d (λ i. p.y i *ℚ M.coefficient i j)) moves, tt)) refl)

  pub best_pairs : ReducesPairs Min M (column_fixed_at M j b) (λ p. p)
  best_pairs = pairs_of M (column_fixed_at M j b) (λ p. p) (record {
    carries = λ p h. held_pair M j b f.column f.within p h
        (λ q. held_low (M.lower_bound j) (M.upper_bound j) b (p.z j) f.within q (price_holds p h))
        (λ q. held_high (M.lower_bound j) (M.upper_bound j) b (p.z j) f.within q (price_holds p h));
  })
