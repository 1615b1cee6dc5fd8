-- Values and costs under a change of one coordinate or one coefficient.
use Rattle.std.proofs.Common.{ℕ, ap, ◌∙◌, [], ◌∷◌, refl}
use Rattle.fractions.specs.Ring.{ring, v, ◌:+◌}
use Rattle.fractions.specs.Number.{Number, rational, ◌+ℚ◌, ◌-ℚ◌, ◌*ℚ◌}
use Rattle.fractions.specs.Total.{total, put}
use Rattle.fractions.proofs.Totals.{put-same, total-put_point, total-put_factor}
use Rattle.lp_theory.specs.Changes.{ValueMoves, CostMoves, CoefficientMoves}

pub value_moves : ValueMoves
value_moves M i j x b l = total-put_point M.columns (M.coefficient i) x j b l

pub cost_moves : CostMoves
cost_moves M j x b l = ap (λ t. t +ℚ M.constant) (total-put_point M.columns M.costs x j b l)
    ∙ ring rational (total M.columns (λ k. M.costs k *ℚ x k) ∷ (M.costs j *ℚ (b -ℚ x j)) ∷ M.constant ∷ []) (v 0 :+ v 1 :+ v 2) (v 0 :+ v 2 :+ v 1) refl

pub coefficient_moves : CoefficientMoves
coefficient_moves M i j x c l =
    ap (λ (r : ℕ → Number). total M.columns (λ k. r k *ℚ x k)) (put-same M.coefficient i (put (M.coefficient i) j c))
    ∙ total-put_factor M.columns (M.coefficient i) x j c l
