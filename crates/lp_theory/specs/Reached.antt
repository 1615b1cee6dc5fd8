-- Where a row's value reaches its least or its greatest activity.
use Rattle.std.specs.Prelude.{◌≡◌, ◌≢◌, ℕ, ◌<◌, Some}
use Rattle.fractions.specs.Number.{Number, zero_ℚ, ◌*ℚ◌}
use Rattle.fractions.specs.Order.{◌<ℚ◌}
use Rattle.fractions.specs.Total.{total, put}
use Rattle.fractions.specs.Ends.{Between}
use Rattle.lp_model.specs.Vectors.{Vector}
use Rattle.lp_model.specs.LinearProgram.{LinearProgram}

-- the value of row i with column j left out
abbrev pub rest_at : LinearProgram → ℕ → ℕ → Vector → Number
rest_at M i j x = total M.columns (put (λ k. M.coefficient i k *ℚ x k) j zero_ℚ)

-- each number but x_j lies between its column's bounds
abbrev pub InBoundsOff : LinearProgram → ℕ → Vector → Type 0
InBoundsOff M j x = (k : ℕ) → k ≢ j → k < M.columns → Between (M.lower_bound k) (M.upper_bound k) (x k)

-- x_k is at the end where row i gets the least from column k: the lower bound for a > 0, the upper one for a < 0
pub record IsAtLeastEnd (M : LinearProgram) (i : ℕ) (x : Vector) (k : ℕ) : Type 0 where
  pub low : zero_ℚ <ℚ M.coefficient i k → M.lower_bound k ≡ Some (x k)
  pub high : M.coefficient i k <ℚ zero_ℚ → M.upper_bound k ≡ Some (x k)

-- x_k is at the end where row i gets the most from column k: the upper bound for a > 0, the lower one for a < 0
pub record IsAtGreatestEnd (M : LinearProgram) (i : ℕ) (x : Vector) (k : ℕ) : Type 0 where
  pub high : zero_ℚ <ℚ M.coefficient i k → M.upper_bound k ≡ Some (x k)
  pub low : M.coefficient i k <ℚ zero_ℚ → M.lower_bound k ≡ Some (x k)
