-- A column that can go on for ever.
use Rattle.std.proofs.Common.{◌≡◌, ℕ, ◌<◌, pos, sym, refl, ◌∙◌, [], ◌∷◌, inl, inr, subst, None, IsTrue}
use Rattle.fractions.specs.Ring.{ring, v, num, ◌:+◌, ◌:-◌, ◌:*◌, inv}
use Rattle.fractions.specs.Number.{Number, rational, zero_ℚ, one_ℚ, ◌+ℚ◌, ◌-ℚ◌, ◌*ℚ◌, neg_ℚ, of_ℤ}
use Rattle.fractions.specs.Order.{◌≤ℚ◌, ◌<ℚ◌, ≤ℚ_trans, <ℚ-≤ℚ, <ℚ-not}
use Rattle.fractions.specs.Linear.{linear, fact, clash}
use Rattle.fractions.specs.Division.{◌/ℚ◌}
use Rattle.fractions.specs.Floor.{IsWhole, ceil_of}
use Rattle.fractions.specs.MinMax.{max_ℚ}
use Rattle.fractions.specs.Total.{put}
use Rattle.fractions.specs.Ends.{Between}
use Rattle.fractions.proofs.Floors.{≤-ceil_of, IsWhole-+ℚ, IsWhole-*ℚ, IsWhole-neg_ℚ}
use Rattle.fractions.proofs.MinMaxLaws.{≤ℚ-max_ℚ_left, ≤ℚ-max_ℚ_right}
use Rattle.fractions.specs.Signs.{≤ℚ-*ℚ_down, over-times, <ℚ-≢'}
use Rattle.fractions.proofs.Totals.{put-same, put-other, at_or_off}
use Rattle.lp_model.specs.declared.program.Sense.TheVariants.{Min}
use Rattle.lp_model.specs.Vectors.{Vector}
use Rattle.lp_model.specs.LinearProgram.{LinearProgram, value_at, cost_at, Feasible}
use Rattle.lp_model.specs.Verdicts.{NoPointOrEndless}
use Rattle.lp_theory.proofs.Moves.{value_moves, cost_moves}
use Rattle.lp_theory.proofs.Pairs.{below_if_not}
use Rattle.lp_columns.specs.UnboundedColumn.{RisesForEver, FallsForEver, IsUnboundedColumn}
use Rattle.lp_columns.proofs.Shifts.{shifted, up_by_up, down_by_up, up_by_down, down_by_down}
use Rattle.lp_theory.proofs.GapSteps.{gaps_moved}

-- column j can go e further, any whole number of times, and costs less each time
record Direction (M : LinearProgram) (j : ℕ) (e : Number) : Type 0 where
  step : IsWhole e
  cheaper : (M.costs j *ℚ e) <ℚ zero_ℚ
  bounds : (x t : Number) → zero_ℚ ≤ℚ t → Between (M.lower_bound j) (M.upper_bound j) x → Between (M.lower_bound j) (M.upper_bound j) (x +ℚ e *ℚ t)
  rows : (i : ℕ) → i < M.rows → (y t : Number) → zero_ℚ ≤ℚ t → Between (M.lower_side i) (M.upper_side i) y → Between (M.lower_side i) (M.upper_side i) (y +ℚ M.coefficient i j *ℚ (e *ℚ t))

-- a whole number of steps, each of the price c < 0, that comes to d or less
steps : Number → Number → Number
steps c d = of_ℤ (ceil_of (max_ℚ zero_ℚ (d /ℚ c)))

steps-pos : (c d : Number) → zero_ℚ ≤ℚ steps c d
unfolding steps
steps-pos c d = ≤ℚ_trans (≤ℚ-max_ℚ_left zero_ℚ (d /ℚ c)) (≤-ceil_of (max_ℚ zero_ℚ (d /ℚ c)))

steps-reach : (c d : Number) → c <ℚ zero_ℚ → (c *ℚ steps c d) ≤ℚ d
unfolding steps
steps-reach c d n = subst (λ z. (c *ℚ steps c d) ≤ℚ z) (over-times c d (<ℚ-≢' n)) (≤ℚ-*ℚ_down c (<ℚ-≤ℚ n) (≤ℚ_trans (≤ℚ-max_ℚ_right zero_ℚ (d /ℚ c)) (≤-ceil_of (max_ℚ zero_ℚ (d /ℚ c)))))

steps-whole : (c d : Number) → IsWhole (steps c d)
unfolding steps
steps-whole c d = record { whole = ceil_of (max_ℚ zero_ℚ (d /ℚ c)); same = refl }

module _ (M : LinearProgram) (j : ℕ) (e : Number) (l : j < M.columns) (free : M.gap j ≡ None) (d : Direction M j e) where
  -- the point with column j t steps further
  abbrev further : Vector → Number → Vector
  further x t = put x j (x j +ℚ e *ℚ t)

  value-further : (i : ℕ) (x : Vector) (t : Number) → value_at M i (further x t) ≡ value_at M i x +ℚ M.coefficient i j *ℚ (e *ℚ t)
  value-further i x t = value_moves M i j x (x j +ℚ e *ℚ t) l ∙ ring rational (value_at M i x ∷ M.coefficient i j ∷ x j ∷ (e *ℚ t) ∷ []) (v 0 :+ v 1 :* ((v 2 :+ v 3) :- v 2)) (v 0 :+ v 1 :* v 3) refl

  cost-further : (x : Vector) (t : Number) → cost_at M (further x t) ≡ cost_at M x +ℚ (M.costs j *ℚ e) *ℚ t
  cost-further x t = cost_moves M j x (x j +ℚ e *ℚ t) l ∙ ring rational (cost_at M x ∷ M.costs j ∷ x j ∷ e ∷ t ∷ []) (v 0 :+ v 1 :* ((v 2 :+ v 3 :* v 4) :- v 2)) (v 0 :+ (v 1 :* v 3) :* v 4) refl

  feasible_further : (x : Vector) (t : Number) → zero_ℚ ≤ℚ t → IsWhole t → Feasible M x → Feasible M (further x t)
  feasible_further x t p w h = record {
    rows = λ i m. subst (Between (M.lower_side i) (M.upper_side i)) (sym (value-further i x t)) (d.rows i m (value_at M i x) t p (h.rows i m));
    columns = at_or_off (λ k. k < M.columns → Between (M.lower_bound k) (M.upper_bound k) (further x t k)) j
        (λ m. subst (Between (M.lower_bound j) (M.upper_bound j)) (sym (put-same x j (x j +ℚ e *ℚ t))) (d.bounds (x j) t p (h.columns j m)))
        (λ k n m. subst (Between (M.lower_bound k) (M.upper_bound k)) (sym (put-other x j (x j +ℚ e *ℚ t) k n)) (h.columns k m));
    whole = at_or_off (λ k. k < M.columns → IsTrue (M.whole k) → IsWhole (further x t k)) j
        (λ m q. subst IsWhole (sym (put-same x j (x j +ℚ e *ℚ t))) (IsWhole-+ℚ (h.whole j m q) (IsWhole-*ℚ d.step w)))
        (λ k n m q. subst IsWhole (sym (put-other x j (x j +ℚ e *ℚ t) k n)) (h.whole k m q));
    gaps = gaps_moved M j x (x j +ℚ e *ℚ t) free h.gaps;
  }

  endless : NoPointOrEndless Min M
  endless x h K =
      let c : Number = M.costs j *ℚ e in
      let g : Number = K -ℚ cost_at M x -ℚ one_ℚ in (
        further x (steps c g),
        feasible_further x (steps c g) (steps-pos c g) (steps-whole c g) h,
        below_if_not (λ q. clash (K ∷ cost_at M x ∷ (c *ℚ steps c g) ∷ []) (fact 1 (v 0) (v 1 :+ v 2) ∷ fact 1 (v 2) (v 0 :- v 1 :- num (pos 1)) ∷ []) 0 (subst (λ z. K ≤ℚ z) (cost-further x (steps c g)) q, (steps-reach c g d.cheaper, tt)) refl),
      )

-- up by 1, and down by 1
one_whole : IsWhole one_ℚ
one_whole = record { whole = pos 1; same = refl }

one_time : (t : Number) → t ≡ one_ℚ *ℚ t
one_time t = ring rational (t ∷ []) (v 0) (num (pos 1) :* v 0) refl

minus_time : (t : Number) → zero_ℚ ≤ℚ t → (neg_ℚ one_ℚ *ℚ t) ≤ℚ zero_ℚ
minus_time t p = linear (t ∷ []) (fact 1 (num (pos 0)) (v 0) ∷ []) 0 (inv (num (pos 1)) :* v 0) (num (pos 0)) (p, tt) refl

upwards : (M : LinearProgram) (j : ℕ) → RisesForEver M j → Direction M j one_ℚ
upwards M j r = record {
  step = one_whole;
  cheaper = subst (λ c. c <ℚ zero_ℚ) (ring rational (M.costs j ∷ []) (v 0) (v 0 :* num (pos 1)) refl) r.cost;
  bounds = λ x t p b. shifted (M.lower_bound j) (M.upper_bound j) x (one_ℚ *ℚ t) (λ q. absurd (<ℚ-not (subst (λ c. c <ℚ zero_ℚ) (sym (one_time t)) q) p)) (λ q. r.upper) b;
  rows = λ i m y t p b. let u : zero_ℚ ≤ℚ (one_ℚ *ℚ t) = subst (λ c. zero_ℚ ≤ℚ c) (one_time t) p in
      shifted (M.lower_side i) (M.upper_side i) y (M.coefficient i j *ℚ (one_ℚ *ℚ t))
      (λ q. r.rows.negative i m (down_by_up (M.coefficient i j) (one_ℚ *ℚ t) u q))
      (λ q. r.rows.positive i m (up_by_up (M.coefficient i j) (one_ℚ *ℚ t) u q)) b;
}

downwards : (M : LinearProgram) (j : ℕ) → FallsForEver M j → Direction M j (neg_ℚ one_ℚ)
downwards M j r = record {
  step = IsWhole-neg_ℚ one_whole;
  cheaper = below_if_not (λ q. <ℚ-not r.cost (linear (M.costs j ∷ []) (fact 1 (num (pos 0)) (v 0 :* inv (num (pos 1))) ∷ []) 0 (v 0) (num (pos 0)) (q, tt) refl));
  bounds = λ x t p b. shifted (M.lower_bound j) (M.upper_bound j) x (neg_ℚ one_ℚ *ℚ t) (λ q. r.lower) (λ q. absurd (<ℚ-not q (minus_time t p))) b;
  rows = λ i m y t p b. shifted (M.lower_side i) (M.upper_side i) y (M.coefficient i j *ℚ (neg_ℚ one_ℚ *ℚ t))
      (λ q. r.rows.positive i m (up_by_down (M.coefficient i j) (neg_ℚ one_ℚ *ℚ t) (minus_time t p) q))
      (λ q. r.rows.negative i m (down_by_down (M.coefficient i j) (neg_ℚ one_ℚ *ℚ t) (minus_time t p) q)) b;
}

pub unbounded_column : (M : LinearProgram) (j : ℕ) → IsUnboundedColumn M j → NoPointOrEndless Min M
unbounded_column M j r = elim r.goes [ inl u ↦ endless M j one_ℚ r.column r.solid (upwards M j u) | inr f ↦ endless M j (neg_ℚ one_ℚ) r.column r.solid (downwards M j f) ]
