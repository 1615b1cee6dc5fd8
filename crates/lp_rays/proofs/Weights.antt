-- Lists of weights, as vectors.
use Rattle.std.proofs.Common.{◌≡◌, ℕ, zero, suc, ◌<◌, List, length, slice_set, replicate, refl, sym, ◌∙◌}
use Rattle.std.proofs.lemmas.List.{get_or-set_same, get_or-set_other}
use Rattle.fractions.specs.Number.{Number, zero_ℚ}
use Rattle.fractions.specs.Total.{put}
use Rattle.fractions.proofs.Totals.{put-same, put-other, at_or_off}
use Rattle.lp_model.specs.Vectors.{vector_of}

-- a list with one number set, by id
pub vector_of-set : (xs : List Number) (j : ℕ) (b : Number) → j < length xs → vector_of (slice_set xs j b) ≡ put (vector_of xs) j b
vector_of-set xs j b l = λ i k. each k i
  where
    each : (k : ℕ) → vector_of (slice_set xs j b) k ≡ put (vector_of xs) j b k
    each = at_or_off (λ k. vector_of (slice_set xs j b) k ≡ put (vector_of xs) j b k) j
        (get_or-set_same xs j b zero_ℚ l ∙ sym (put-same (vector_of xs) j b))
        (λ k n. get_or-set_other xs j k b zero_ℚ n ∙ sym (put-other (vector_of xs) j b k n))

-- zeros are 0 at each id
pub vector_of_zeros : (n : ℕ) → vector_of (replicate n zero_ℚ) ≡ (λ k. zero_ℚ)
vector_of_zeros n = λ i k. each n k i
  where
    each : (m k : ℕ) → vector_of (replicate m zero_ℚ) k ≡ zero_ℚ
    each zero k = refl
    each (suc m) zero = refl
    each (suc m) (suc k) = each m k
