-- A multiplier that is set to 0 and then grows by d is d.
use Rattle.std.proofs.Common.{◌≡◌, ℕ, pos, sym, refl, ap, ◌∙◌, [], ◌∷◌}
use Rattle.fractions.specs.Ring.{ring, v, num, ◌:+◌}
use Rattle.fractions.specs.Number.{Number, rational, zero_ℚ, ◌+ℚ◌}
use Rattle.fractions.specs.Total.{put}
use Rattle.fractions.proofs.Totals.{put-same, put-other, at_or_off}
use Rattle.lp_model.specs.Vectors.{Vector}

pub set_from_zero : (y : Vector) (i : ℕ) (d : Number) → put (put y i zero_ℚ) i (put y i zero_ℚ i +ℚ d) ≡ put y i d
set_from_zero y i d t k = at_or_off (λ k. put (put y i zero_ℚ) i (put y i zero_ℚ i +ℚ d) k ≡ put y i d k) i
    (put-same (put y i zero_ℚ) i (put y i zero_ℚ i +ℚ d) ∙ ap (λ c. c +ℚ d) (put-same y i zero_ℚ) ∙ ring rational (d ∷ []) (num (pos 0) :+ v 0) (v 0) refl ∙ sym (put-same y i d))
    (λ k n. put-other (put y i zero_ℚ) i (put y i zero_ℚ i +ℚ d) k n ∙ put-other y i zero_ℚ k n ∙ sym (put-other y i d k n)) k t
