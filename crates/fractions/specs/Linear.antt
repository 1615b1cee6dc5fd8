-- A proof of a linear inequality from others by weights, whose check computes.
use Rattle.std.proofs.Common.{◌≡◌, ℕ, pos, negsuc, T, List, [], ◌∷◌, sym, subst}
use Rattle.fractions.specs.Ring.{ring, value, norm, Expr, num, ◌:+◌, ◌:-◌, ◌:*◌}
use Rattle.fractions.specs.Number.{Number, rational, of_ℤ}
use Rattle.fractions.specs.Order.{◌≤ℚ◌, non_neg_ℚ, non_neg-of_ℤ, non_neg-+ℚ, non_neg-*ℚ}

pub record Fact : Type 0 where
  pub weight : ℕ
  pub low : Expr
  pub high : Expr

-- `k * (low ≤ high)`
abbrev pub fact : ℕ → Expr → Expr → Fact
fact k l h = record { weight = k; low = l; high = h }

abbrev pub combined : List Fact → Expr
combined [] = num (pos 0)
combined (f ∷ fs) = num (pos f.weight) :* (f.high :- f.low) :+ combined fs

abbrev pub Hold : List Number → List Fact → Type 0
Hold xs [] = Unit {0}
Hold xs (f ∷ fs) = (value rational xs f.low ≤ℚ value rational xs f.high) × Hold xs fs

combined-is : (xs : List Number) (fs : List Fact) → Hold xs fs → T (non_neg_ℚ (value rational xs (combined fs)))
combined-is xs [] h = subst T (sym (non_neg-of_ℤ (pos 0))) tt
combined-is xs (f ∷ fs) h =
    non_neg-+ℚ _ _ (non_neg-*ℚ (of_ℤ (pos f.weight)) _ (subst T (sym (non_neg-of_ℤ (pos f.weight))) tt) h.0.le) (combined-is xs fs h.1)

-- `low ≤ high`, where `high - low` is the weighted sum of the facts and a number k
pub linear : (xs : List Number) (fs : List Fact) (k : ℕ) (low high : Expr) → Hold xs fs → norm (high :- low) ≡ norm (combined fs :+ num (pos k)) → value rational xs low ≤ℚ value rational xs high
linear xs fs k low high h e = record { le = subst (λ d. T (non_neg_ℚ d)) (sym (ring rational xs (high :- low) (combined fs :+ num (pos k)) e)) (non_neg-+ℚ _ _ (combined-is xs fs h) (subst T (sym (non_neg-of_ℤ (pos k))) tt)) }

-- facts whose weighted sum says 0 ≤ -k - 1
pub clash : (xs : List Number) (fs : List Fact) (k : ℕ) → Hold xs fs → norm (combined fs) ≡ norm (num (negsuc k)) → ⊥
clash xs fs k h e = subst T (non_neg-of_ℤ (negsuc k)) (subst (λ d. T (non_neg_ℚ d)) (ring rational xs (combined fs) (num (negsuc k)) e) (combined-is xs fs h))
