-- What undoing brings back: the rows that were solved, and the number that was shared.
use Rattle.std.proofs.Common.{◌≡◌, ◌≢◌, ℕ, pos, [], ◌∷◌, refl, ap, ap₂, ◌∙◌}
use Rattle.fractions.specs.Ring.{ring, v, num, ◌:+◌, ◌:-◌, ◌:*◌}
use Rattle.fractions.specs.Number.{Number, rational, zero_ℚ, ◌+ℚ◌, ◌-ℚ◌, ◌*ℚ◌}
use Rattle.fractions.specs.Division.{inv_ℚ, ◌/ℚ◌, *ℚ-inv_ℚ}
use Rattle.fractions.specs.Total.{put}
use Rattle.fractions.proofs.Totals.{put-same, put-other}
use Rattle.lp_model.specs.Vectors.{Vector}
use Rattle.undo_records.specs.ParallelColumns.{part}

times_over : (p a : Number) → a ≢ zero_ℚ → a *ℚ (p /ℚ a) ≡ p
times_over p a h =
    ring rational (a ∷ p ∷ inv_ℚ a ∷ []) (v 0 :* (v 1 :* v 2)) (v 1 :* (v 0 :* v 2)) refl
    ∙ ap (λ q. p *ℚ q) (*ℚ-inv_ℚ a h)
    ∙ ring rational (p ∷ []) (v 0 :* num (pos 1)) (v 0) refl

-- a x_j + b x_k = r
pub row_of_two : (x : Vector) (j k : ℕ) (a b r : Number) → a ≢ zero_ℚ → k ≢ j → a *ℚ put x j ((r -ℚ b *ℚ x k) /ℚ a) j +ℚ b *ℚ put x j ((r -ℚ b *ℚ x k) /ℚ a) k ≡ r
row_of_two x j k a b r h n =
    ap₂ (λ p q. a *ℚ p +ℚ b *ℚ q) (put-same x j ((r -ℚ b *ℚ x k) /ℚ a)) (put-other x j ((r -ℚ b *ℚ x k) /ℚ a) k n)
    ∙ ap (λ p. p +ℚ b *ℚ x k) (times_over (r -ℚ b *ℚ x k) a h)
    ∙ ring rational (r ∷ b ∷ x k ∷ []) ((v 0 :- v 1 :* v 2) :+ v 1 :* v 2) (v 0) refl

-- a x_j and the sum of the other terms is s
pub row_at_side : (x : Vector) (j : ℕ) (a s q : Number) → a ≢ zero_ℚ → a *ℚ put x j ((s -ℚ q) /ℚ a) j +ℚ q ≡ s
row_at_side x j a s q h =
    ap (λ p. a *ℚ p +ℚ q) (put-same x j ((s -ℚ q) /ℚ a))
    ∙ ap (λ p. p +ℚ q) (times_over (s -ℚ q) a h)
    ∙ ring rational (s ∷ q ∷ []) ((v 0 :- v 1) :+ v 1) (v 0) refl

-- x_k + s x_j is what x_k was
pub parts_add_up : (x : Vector) (j k : ℕ) (s p : Number) → j ≢ k → part x j k s p k +ℚ s *ℚ part x j k s p j ≡ x k
parts_add_up x j k s p n =
    ap₂ (λ a b. a +ℚ s *ℚ b) (put-same (put x j p) k (x k -ℚ s *ℚ p)) (put-other (put x j p) k (x k -ℚ s *ℚ p) j n ∙ put-same x j p)
    ∙ ring rational (x k ∷ s ∷ p ∷ []) ((v 0 :- v 1 :* v 2) :+ v 1 :* v 2) (v 0) refl
