-- Inverses and quotients.
use Rattle.std.proofs.Common.{◌≡◌, ◌≢◌, ℕ, zero, suc, ◌<◌, ℤ, pos, negsuc, ◌*ℤ◌, neg_ℤ, [], ◌∷◌, sym, ap, ◌∙◌, refl}
use Rattle.std.proofs.Math.IntN.{zero-*ℤ}
use mathlib.Core.Quot.{sound}
use Rattle.fractions.specs.Ring.{ring, whole, v, num, ◌:*◌, inv}
use Rattle.fractions.specs.Number.{Number, fraction, ◌*ℚ◌, of_ℤ, zero_ℚ, one_ℚ, lift2}
use Rattle.fractions.specs.Lowest.{over_of, under_of, under_of_positive, fraction-shown, ratio}

-- d / n, with the sign above; 0 where n is 0
abbrev pub inverse_by : ℤ → ℕ → Number
inverse_by (pos zero) d = zero_ℚ
inverse_by (pos (suc n)) d = ratio (pos d) (suc n)
inverse_by (negsuc n) d = ratio (neg_ℤ (pos d)) (suc n)

-- 1 / q, and 0 at 0
unfoldable pub inv_ℚ : Number → Number
inv_ℚ q = inverse_by (over_of q) (under_of q)

infixl 7 ◌/ℚ◌
abbrev pub ◌/ℚ◌ : Number → Number → Number
p /ℚ q = p *ℚ inv_ℚ q

times_inverse : (n : ℤ) (d : ℕ) (p : 0 < d) → n ≢ pos 0 → fraction (record { over = n; under = d; positive = p }) *ℚ inverse_by n d ≡ one_ℚ
unfolding ◌*ℚ◌ lift2 of_ℤ ratio
times_inverse (pos zero) d p h = absurd (h refl)
times_inverse (pos (suc n)) d p h = sound (ring whole (pos (suc n) ∷ pos d ∷ []) ((v 0 :* v 1) :* num (pos 1)) (num (pos 1) :* (v 1 :* v 0)) refl)
times_inverse (negsuc n) d p h = sound (ring whole (pos (suc n) ∷ pos d ∷ []) ((inv (v 0) :* inv (v 1)) :* num (pos 1)) (num (pos 1) :* (v 1 :* v 0)) refl)

pub *ℚ-inv_ℚ : (q : Number) → q ≢ zero_ℚ → q *ℚ inv_ℚ q ≡ one_ℚ
unfolding inv_ℚ of_ℤ
*ℚ-inv_ℚ q h =
    ap (λ p. p *ℚ inverse_by (over_of q) (under_of q)) (sym (fraction-shown q))
    ∙ times_inverse (over_of q) (under_of q) (under_of_positive q)
    (λ e. h (sym (fraction-shown q) ∙ sound (ap (λ z. z *ℤ pos 1) e ∙ sym (zero-*ℤ (pos (under_of q))))))
