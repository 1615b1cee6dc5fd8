-- How a row's value changes with one coordinate, and with one coefficient.
use Rattle.std.specs.Prelude.{◌≡◌, ℕ, ◌<◌}
use Rattle.fractions.specs.Number.{Number, ◌+ℚ◌, ◌-ℚ◌, ◌*ℚ◌}
use Rattle.fractions.specs.Total.{put}
use Rattle.lp_model.specs.Edits.{with_coefficient}
use Rattle.lp_model.specs.Vectors.{Vector}
use Rattle.lp_model.specs.LinearProgram.{LinearProgram, value_at, cost_at}

-- another number b at column j moves a row's value by its coefficient times the difference
abbrev pub ValueMoves : Type 0
ValueMoves = (M : LinearProgram) (i j : ℕ) (x : Vector) (b : Number) → j < M.columns → value_at M i (put x j b) ≡ value_at M i x +ℚ M.coefficient i j *ℚ (b -ℚ x j)

-- and the cost by column j's cost times the difference
abbrev pub CostMoves : Type 0
CostMoves = (M : LinearProgram) (j : ℕ) (x : Vector) (b : Number) → j < M.columns → cost_at M (put x j b) ≡ cost_at M x +ℚ M.costs j *ℚ (b -ℚ x j)

-- another coefficient c at (i, j) moves the value of row i by the difference times x_j
abbrev pub CoefficientMoves : Type 0
CoefficientMoves = (M : LinearProgram) (i j : ℕ) (x : Vector) (c : Number) → j < M.columns → value_at (with_coefficient M i j c) i x ≡ value_at M i x +ℚ (c -ℚ M.coefficient i j) *ℚ x j
