-- The inverse of a fraction in lowest terms.
use Rattle.std.proofs.Common.{◌≡◌, ◌≢◌, ℕ, zero, suc, ◌<◌, ◌^◌, ℤ, pos, negsuc, neg_ℤ, nat_abs, ◌<ℤ◌, ◌≤ℤ◌, ◌*ℤ◌, ◌⊎◌, inl, inr, Bool, true, false, true≢false, sym, refl, ap, ap₂, ◌∙◌, subst, arith}
use mathlib.Core.Quot.{sound}
use Rattle.std.proofs.Math.IntN.{zero-*ℤ}
use Rattle.std.proofs.lemmas.Int.{ints}
use Rattle.fractions.specs.Number.{of_ℤ}
use Rattle.fractions.specs.Gcd.{gcd, coprime_comm}
use Rattle.fractions.specs.Lowest.{ratio, ratio-is, IsLowest, over_of-ratio, under_of-ratio}
use Rattle.fractions.specs.Division.{inv_ℚ, inverse_by}

pub inv_ℚ-ratio : (n : ℤ) (d : ℕ) → IsLowest n d → inv_ℚ (ratio n d) ≡ inverse_by n d
unfolding inv_ℚ
inv_ℚ-ratio n d h = ap₂ inverse_by (over_of-ratio n d h) (under_of-ratio n d h)

pub inverse_positive : (n : ℤ) (d k : ℕ) → k ≡ nat_abs n → pos 0 <ℤ n → ratio (pos d) k ≡ inverse_by n d
inverse_positive (pos zero) d k e h = absurd (omega (arith, ints))
inverse_positive (pos (suc n)) d k e h = ap (ratio (pos d)) e
inverse_positive (negsuc n) d k e h = absurd (omega (arith, ints))

pub inverse_negative : (n : ℤ) (d k : ℕ) → k ≡ nat_abs n → n <ℤ pos 0 → ratio (neg_ℤ (pos d)) k ≡ inverse_by n d
inverse_negative (pos n) d k e h = absurd (omega (arith, ints))
inverse_negative (negsuc n) d k e h = ap (ratio (neg_ℤ (pos d))) e

pub ratio-zero : (n : ℤ) (d : ℕ) → 0 < d → n ≡ pos 0 → ratio n d ≡ of_ℤ (pos 0)
unfolding of_ℤ
ratio-zero n d p e = ratio-is n d p ∙ sound (ap (λ z. z *ℤ pos 1) e ∙ sym (zero-*ℤ (pos d)))

-- the steps of an inverse
pub inverse_steps : (n m : ℤ) (d k : ℕ) → IsLowest n d → (ratio n d ≢ of_ℤ (pos 0)) → k ≡ nat_abs n → ((pos 0 ≤ℤ n) × (m ≡ pos d)) ⊎ ((n <ℤ pos 0) × (m ≡ neg_ℤ (pos d)))
    → IsLowest m k × (ratio m k ≡ inv_ℚ (ratio n d))
inverse_steps n m d k h z e (inl c) =
    let p : pos 0 <ℤ n = strict n c.0 (λ t. z (ratio-zero n d h.positive t)) in (
      record {
        over_fits = rw c.1 h.under_fits;
        under_fits = rw e h.over_fits;
        positive = rw e (abs_pos n (λ t. z (ratio-zero n d h.positive t)));
        coprime = rw (c.1, e) (coprime_comm _ _ h.coprime);
      },
      rw c.1 (inverse_positive n d k e p) ∙ sym (inv_ℚ-ratio n d h),
    )
  where
    strict : (n : ℤ) → pos 0 ≤ℤ n → (n ≡ pos 0 → ⊥) → pos 0 <ℤ n
    strict (pos zero) l f = absurd (f refl)
    strict (pos (suc n)) l f = omega (arith, ints)
    strict (negsuc n) l f = absurd (omega (arith, ints))

    abs_pos : (n : ℤ) → (n ≡ pos 0 → ⊥) → 0 < nat_abs n
    abs_pos (pos zero) f = absurd (f refl)
    abs_pos (pos (suc n)) f = omega arith
    abs_pos (negsuc n) f = omega arith
inverse_steps n m d k h z e (inr c) = (
  record {
    over_fits = rw c.1 (subst (λ j. j < 2 ^ 127) (sym (nat_abs-neg-pos d)) h.under_fits);
    under_fits = rw e h.over_fits;
    positive = rw e (abs_pos n c.0);
    coprime = rw (c.1, e) (subst (λ j. gcd j (nat_abs n) ≡ 1) (sym (nat_abs-neg-pos d)) (coprime_comm _ _ h.coprime));
  },
  rw c.1 (inverse_negative n d k e c.0) ∙ sym (inv_ℚ-ratio n d h),
)
  where
    abs_pos : (n : ℤ) → n <ℤ pos 0 → 0 < nat_abs n
    abs_pos (pos n) l = absurd (omega (arith, ints))
    abs_pos (negsuc n) l = omega arith

    nat_abs-neg-pos : (d : ℕ) → nat_abs (neg_ℤ (pos d)) ≡ d
    nat_abs-neg-pos zero = refl
    nat_abs-neg-pos (suc n) = refl

pub not_below : (n : ℤ) (b : Bool) → b ≡ false → (n <ℤ pos 0 → b ≡ true) → pos 0 ≤ℤ n
not_below (pos n) b e f = omega (arith, ints)
not_below (negsuc n) b e f = absurd (true≢false (sym (f (omega (arith, ints))) ∙ e))
