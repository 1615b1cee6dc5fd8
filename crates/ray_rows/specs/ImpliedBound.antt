-- Where K8 applies: row i implies a finite bound of column j. That it is better than the old one does not matter to rays.
use Rattle.std.specs.Prelude.{◌≡◌, ◌≢◌, ℕ, ◌<◌, Some}
use Rattle.fractions.specs.Number.{Number, zero_ℚ}
use Rattle.lp_model.specs.LinearProgram.{LinearProgram}
use Rattle.lp_rows.specs.BoundTightening.{implied_lower, implied_upper}

pub record IsImpliedLowerBound (M : LinearProgram) (i j : ℕ) : Type 0 where
  pub row : i < M.rows
  pub column : j < M.columns
  pub entry : M.coefficient i j ≢ zero_ℚ
  pub number : Number
  pub implied : implied_lower M i j ≡ Some number

pub record IsImpliedUpperBound (M : LinearProgram) (i j : ℕ) : Type 0 where
  pub row : i < M.rows
  pub column : j < M.columns
  pub entry : M.coefficient i j ≢ zero_ℚ
  pub number : Number
  pub implied : implied_upper M i j ≡ Some number
