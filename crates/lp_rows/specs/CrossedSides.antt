-- V1: sides that are crossed let no point through.
use Rattle.std.specs.Prelude.{ℕ, ◌<◌}
use Rattle.lp_model.specs.LinearProgram.{LinearProgram}
use Rattle.lp_theory.specs.Crossed.{AreCrossed}

-- enabled at row i
pub record IsCrossedRow (M : LinearProgram) (i : ℕ) : Type 0 where
  pub row : i < M.rows
  pub crossed : AreCrossed (M.lower_side i) (M.upper_side i)
