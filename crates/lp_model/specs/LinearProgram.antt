-- Linear programs with whole and semi-continuous columns, as functions of row and column ids, and their points.
use Rattle.std.specs.Prelude.{ℕ, ◌<◌, Bool, IsTrue, Option}
use Rattle.fractions.specs.Number.{Number, ◌+ℚ◌, ◌*ℚ◌}
use Rattle.fractions.specs.Total.{total}
use Rattle.fractions.specs.Ends.{Between}
use Rattle.fractions.specs.Floor.{IsWhole}
use Rattle.lp_model.specs.Vectors.{Vector}
use Rattle.lp_model.specs.Gaps.{Gap, Clears}

-- Rows are the ids below `rows`, columns those below `columns`. A row or column that was deleted keeps its id:
-- its coefficients are 0 and it has no ends, so a point need not know that it was there. The bounds of a semi-continuous column are the
-- hull of 0 and its ends; the ends stand in its gap.
pub record LinearProgram : Type 0 where
  pub rows : ℕ
  pub columns : ℕ
  pub coefficient : ℕ → ℕ → Number
  pub lower_side : ℕ → Option Number
  pub upper_side : ℕ → Option Number
  pub lower_bound : ℕ → Option Number
  pub upper_bound : ℕ → Option Number
  pub whole : ℕ → Bool
  pub gap : ℕ → Option Gap
  pub costs : Vector
  pub constant : Number

-- Value: the sum over the columns of the coefficient at (i, j) times x_j
abbrev pub value_at : LinearProgram → ℕ → Vector → Number
value_at M i x = total M.columns (λ j. M.coefficient i j *ℚ x j)

-- Cost: the sum of costs times x_j, then the constant
abbrev pub cost_at : LinearProgram → Vector → Number
cost_at M x = total M.columns (λ j. M.costs j *ℚ x j) +ℚ M.constant

-- Feasible: each Value lies between its row's sides, each x_j between its bounds; x_j is whole where column j is, and it is 0 or between
-- the ends of column j's gap where it has one
pub record Feasible (M : LinearProgram) (x : Vector) : Type 0 where
  pub rows : (i : ℕ) → i < M.rows → Between (M.lower_side i) (M.upper_side i) (value_at M i x)
  pub columns : (j : ℕ) → j < M.columns → Between (M.lower_bound j) (M.upper_bound j) (x j)
  pub whole : (j : ℕ) → j < M.columns → IsTrue (M.whole j) → IsWhole (x j)
  pub gaps : (j : ℕ) → j < M.columns → Clears (M.gap j) (x j)
