-- The points of a program as it is given.
use Rattle.std.specs.Prelude.{ℕ, ◌<◌, length}
use Rattle.fractions.specs.Ends.{Between}
use Rattle.lp_model.specs.Vectors.{Vector}
use Rattle.lp_model.specs.LinearProgram.{value_at}
use Rattle.lp_model.specs.Meaning.{meaning, row_at, column_at}
use Rattle.lp_model.specs.ProgramData.{ProgramData}
use Rattle.lp_model.specs.Violations.{FitsColumn}

-- the value of each row lies between its sides; each x_j lies between its column's bounds, or is 0 where that is semi-continuous, and it is
-- whole where that has to be
pub record IsPointOf (p : ProgramData) (x : Vector) : Type 0 where
  pub rows : (i : ℕ) → i < length p.rows → Between (row_at p i).lower (row_at p i).upper (value_at (meaning p) i x)
  pub columns : (j : ℕ) → j < length p.columns → FitsColumn (column_at p j) (x j)
