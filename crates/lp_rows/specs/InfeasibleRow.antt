-- V2: a row whose sides its columns' bounds keep out of reach lets no point through.
use Rattle.std.specs.Prelude.{ℕ, ◌<◌}
use Rattle.lp_model.specs.LinearProgram.{LinearProgram}
use Rattle.lp_theory.specs.Activities.{least, greatest}
use Rattle.lp_theory.specs.Crossed.{AreCrossed}

-- enabled at row i: the least activity is above U
pub record IsAboveUpperSide (M : LinearProgram) (i : ℕ) : Type 0 where
  pub row : i < M.rows
  pub above : AreCrossed (least M i) (M.upper_side i)

-- or the greatest is below L
pub record IsBelowLowerSide (M : LinearProgram) (i : ℕ) : Type 0 where
  pub row : i < M.rows
  pub below : AreCrossed (M.lower_side i) (greatest M i)
