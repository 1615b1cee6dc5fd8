-- Reduced costs, one column after another.
use Rattle.std.proofs.Common.{◌≡◌, ◌⊎◌, inl, inr, ℕ, ◌+◌, ◌<◌, ◌≤◌, List, [], ◌∷◌, ◌++◌, sym, ap, ap₂, ◌∙◌, subst, arith, add-one}
use Rattle.std.proofs.lemmas.Bool.{cases_lt}
use Rattle.fractions.specs.Number.{Number}
use Rattle.fractions.specs.Room.{Room}
use Rattle.lp_model.specs.Vectors.{Vector}
use Rattle.lp_model.specs.LinearProgram.{LinearProgram}
use Rattle.lp_model.specs.Optimality.{reduced_cost}
use Rattle.lp_prices.specs.Prices.{ReducedCostFitsIn}
use Rattle.undo_pairs.specs.Numbers.{reduced_costs_of}

pub costs_more : (M : LinearProgram) (y : Vector) (n : ℕ) (xs ys : List Number) (q : Number) → xs ≡ reduced_costs_of M y n → q ≡ reduced_cost M y n → ys ≡ xs ++ q ∷ [] → ys ≡ reduced_costs_of M y (n + 1)
costs_more M y n xs ys q ex eq ey = ey ∙ ap₂ (λ (zs : List Number) (c : Number). zs ++ c ∷ []) ex eq ∙ ap (reduced_costs_of M y) (sym (add-one n))

pub fits_more : (r : Room) (M : LinearProgram) (y : Vector) (n : ℕ) → ((k : ℕ) → k < n → ReducedCostFitsIn r M y k) → ReducedCostFitsIn r M y n → (k : ℕ) → k < n + 1 → ReducedCostFitsIn r M y k
fits_more r M y n h f k l = by (cases_lt k n)
  where
    by : (k < n) ⊎ (n ≤ k) → ReducedCostFitsIn r M y k
    by (inl m) = h k m
    by (inr m) = let e : n ≡ k = omega (arith, l, m) in subst (λ (i : ℕ). ReducedCostFitsIn r M y i) e f
