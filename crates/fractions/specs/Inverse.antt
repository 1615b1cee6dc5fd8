-- Quotients of numbers, under one name with what their proofs need.
use Rattle.std.proofs.Common.{◌≡◌, ◌≢◌, pos, negsuc, T, [], ap, ◌∙◌, subst, refl, ◌⊎◌, inl, inr}
use Rattle.fractions.specs.Ring.{ring, num, ◌:-◌}
use Rattle.fractions.specs.Number.{Number, rational}
use Rattle.fractions.specs.Order.{◌≤ℚ◌, ≤ℚ_antisym, ≤ℚ_cases, ≤ℚ_refl, <ℚ-not, non_neg_ℚ, non_neg-of_ℤ}
pub use Rattle.fractions.specs.Number.{zero_ℚ, one_ℚ}
pub use Rattle.fractions.specs.Division.{inv_ℚ, ◌/ℚ◌, *ℚ-inv_ℚ}

pub not_one-≤-zero : one_ℚ ≤ℚ zero_ℚ → ⊥
not_one-≤-zero h = subst T (ap non_neg_ℚ (ring rational [] (num (pos 0) :- num (pos 1)) (num (negsuc 0)) refl) ∙ non_neg-of_ℤ (negsuc 0)) h.le

pub zero_or_not : (q : Number) → (q ≡ zero_ℚ) ⊎ (q ≢ zero_ℚ)
zero_or_not q = elim (≤ℚ_cases q zero_ℚ) [
  | inl h ↦ elim (≤ℚ_cases zero_ℚ q) [ inl k ↦ inl (≤ℚ_antisym h k) | inr k ↦ inr (λ e. <ℚ-not k (subst (λ z. z ≤ℚ q) e (≤ℚ_refl q))) ]
  | inr h ↦ inr (λ e. <ℚ-not h (subst (λ z. q ≤ℚ z) e (≤ℚ_refl q)))
]
