-- Where a row's value reaches an activity, each column is at its end.
use Rattle.std.proofs.Common.{◌≡◌, ◌≢◌, ℕ, ◌<◌, sym, ap, ◌∙◌, Some}
use Rattle.fractions.specs.Number.{zero_ℚ, ◌*ℚ◌}
use Rattle.fractions.specs.Order.{≤ℚ_refl}
use Rattle.fractions.specs.Total.{put}
use Rattle.fractions.specs.Ends.{AtLeast, AtMost}
use Rattle.fractions.proofs.Totals.{put-same, put-other, at_or_off}
use Rattle.lp_model.specs.Vectors.{Vector}
use Rattle.lp_model.specs.LinearProgram.{LinearProgram, value_at}
use Rattle.lp_theory.specs.Activities.{least_terms, greatest_terms, least, greatest, least_rest, greatest_rest, InBounds}
use Rattle.lp_theory.specs.Reached.{rest_at, InBoundsOff, IsAtLeastEnd, IsAtGreatestEnd}
use Rattle.lp_theory.proofs.ActivityLaws.{least_term-low, greatest_term-high}
use Rattle.lp_theory.proofs.Pairs.{tight_low, tight_high, term_tight}

-- each column's term is its least, or its greatest, within the bounds
least_terms-low : (M : LinearProgram) (i : ℕ) (x : Vector) (k : ℕ) → InBounds M x → k < M.columns → AtLeast (least_terms M i k) (M.coefficient i k *ℚ x k)
least_terms-low M i x k b l = least_term-low (M.coefficient i k) (M.lower_bound k) (M.upper_bound k) (x k) (b k l)

greatest_terms-high : (M : LinearProgram) (i : ℕ) (x : Vector) (k : ℕ) → InBounds M x → k < M.columns → AtMost (greatest_terms M i k) (M.coefficient i k *ℚ x k)
greatest_terms-high M i x k b l = greatest_term-high (M.coefficient i k) (M.lower_bound k) (M.upper_bound k) (x k) (b k l)

-- a term at its end puts the column at its end
least_end : (M : LinearProgram) (i : ℕ) (x : Vector) (k : ℕ) → least_terms M i k ≡ Some (M.coefficient i k *ℚ x k) → IsAtLeastEnd M i x k
least_end M i x k e = let t = term_tight (M.coefficient i k) (x k) (M.lower_bound k) (M.upper_bound k) e in record { low = t.0; high = t.1 }

greatest_end : (M : LinearProgram) (i : ℕ) (x : Vector) (k : ℕ) → greatest_terms M i k ≡ Some (M.coefficient i k *ℚ x k) → IsAtGreatestEnd M i x k
greatest_end M i x k e = let t = term_tight (M.coefficient i k) (x k) (M.upper_bound k) (M.lower_bound k) e in record { high = t.0; low = t.1 }

-- ---- the whole row
pub least_reached : (M : LinearProgram) (i : ℕ) (x : Vector) → InBounds M x → least M i ≡ Some (value_at M i x) → (k : ℕ) → k < M.columns → IsAtLeastEnd M i x k
least_reached M i x b e k l = least_end M i x k (tight_low M.columns (least_terms M i) (λ k. M.coefficient i k *ℚ x k) (value_at M i x) (λ k l. least_terms-low M i x k b l) e (≤ℚ_refl (value_at M i x)) k l)

pub greatest_reached : (M : LinearProgram) (i : ℕ) (x : Vector) → InBounds M x → greatest M i ≡ Some (value_at M i x) → (k : ℕ) → k < M.columns → IsAtGreatestEnd M i x k
greatest_reached M i x b e k l = greatest_end M i x k (tight_high M.columns (greatest_terms M i) (λ k. M.coefficient i k *ℚ x k) (value_at M i x) (λ k l. greatest_terms-high M i x k b l) e (≤ℚ_refl (value_at M i x)) k l)

-- ---- one column left out
pub least_rest_reached : (M : LinearProgram) (i j : ℕ) (x : Vector) → InBoundsOff M j x → least_rest M i j ≡ Some (rest_at M i j x) → (k : ℕ) → k ≢ j → k < M.columns → IsAtLeastEnd M i x k
least_rest_reached M i j x b e k n l = least_end M i x k
    (sym (put-other (least_terms M i) j (Some zero_ℚ) k n)
    ∙ tight_low M.columns (put (least_terms M i) j (Some zero_ℚ)) (put (λ k. M.coefficient i k *ℚ x k) j zero_ℚ) (rest_at M i j x)
    (at_or_off (λ k. k < M.columns → AtLeast (put (least_terms M i) j (Some zero_ℚ) k) (put (λ k. M.coefficient i k *ℚ x k) j zero_ℚ k)) j
    (λ l. rw (put-same (least_terms M i), put-same (λ k. M.coefficient i k *ℚ x k)) (≤ℚ_refl zero_ℚ))
    (λ k n l. rw (put-other (least_terms M i) j (Some zero_ℚ) k n, put-other (λ k. M.coefficient i k *ℚ x k) j zero_ℚ k n) (least_term-low (M.coefficient i k) (M.lower_bound k) (M.upper_bound k) (x k) (b k n l))))
    e (≤ℚ_refl (rest_at M i j x)) k l
    ∙ ap Some (put-other (λ k. M.coefficient i k *ℚ x k) j zero_ℚ k n))

pub greatest_rest_reached : (M : LinearProgram) (i j : ℕ) (x : Vector) → InBoundsOff M j x → greatest_rest M i j ≡ Some (rest_at M i j x) → (k : ℕ) → k ≢ j → k < M.columns → IsAtGreatestEnd M i x k
greatest_rest_reached M i j x b e k n l = greatest_end M i x k
    (sym (put-other (greatest_terms M i) j (Some zero_ℚ) k n)
    ∙ tight_high M.columns (put (greatest_terms M i) j (Some zero_ℚ)) (put (λ k. M.coefficient i k *ℚ x k) j zero_ℚ) (rest_at M i j x)
    (at_or_off (λ k. k < M.columns → AtMost (put (greatest_terms M i) j (Some zero_ℚ) k) (put (λ k. M.coefficient i k *ℚ x k) j zero_ℚ k)) j
    (λ l. rw (put-same (greatest_terms M i), put-same (λ k. M.coefficient i k *ℚ x k)) (≤ℚ_refl zero_ℚ))
    (λ k n l. rw (put-other (greatest_terms M i) j (Some zero_ℚ) k n, put-other (λ k. M.coefficient i k *ℚ x k) j zero_ℚ k n) (greatest_term-high (M.coefficient i k) (M.lower_bound k) (M.upper_bound k) (x k) (b k n l))))
    e (≤ℚ_refl (rest_at M i j x)) k l
    ∙ ap Some (put-other (λ k. M.coefficient i k *ℚ x k) j zero_ℚ k n))
