-- V1 at a column: bounds that are crossed let no point through.
use Rattle.std.specs.Prelude.{ℕ, ◌<◌}
use Rattle.lp_model.specs.LinearProgram.{LinearProgram}
use Rattle.lp_theory.specs.Crossed.{AreCrossed}

-- enabled at column j
pub record IsCrossedColumn (M : LinearProgram) (j : ℕ) : Type 0 where
  pub column : j < M.columns
  pub crossed : AreCrossed (M.lower_bound j) (M.upper_bound j)
