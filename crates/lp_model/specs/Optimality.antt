-- The optimality conditions of linear programming duality.
use Rattle.std.specs.Prelude.{◌≡◌, ℕ, ◌<◌, false, None}
use Rattle.fractions.specs.Number.{Number, ◌-ℚ◌, ◌*ℚ◌}
use Rattle.lp_model.specs.declared.program.Sense.{Sense}
use Rattle.fractions.specs.Total.{total}
use Rattle.lp_model.specs.Vectors.{Vector}
use Rattle.lp_model.specs.LinearProgram.{LinearProgram, value_at, Feasible}
use Rattle.lp_model.specs.Senses.{Sits}

-- no column is whole or semi-continuous
abbrev pub Continuous : LinearProgram → Type 0
Continuous M = (j : ℕ) → j < M.columns → (M.whole j ≡ false) × (M.gap j ≡ None)

-- c_j - sum of y_i a_ij: what the rows' multipliers leave of the cost of column j
abbrev pub reduced_cost : LinearProgram → Vector → ℕ → Number
reduced_cost M y j = M.costs j -ℚ total M.rows (λ i. y i *ℚ M.coefficient i j)

-- Meets: the point x is feasible, and each row's dual y_i and each column's reduced cost sits at the end that its sign asks for
pub record Meets (s : Sense) (M : LinearProgram) (x y : Vector) : Type 0 where
  pub continuous : Continuous M
  pub feasible : Feasible M x
  pub rows : (i : ℕ) → i < M.rows → Sits s (M.lower_side i) (M.upper_side i) (value_at M i x) (y i)
  pub columns : (j : ℕ) → j < M.columns → Sits s (M.lower_bound j) (M.upper_bound j) (x j) (reduced_cost M y j)
