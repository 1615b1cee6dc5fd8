-- Linear programs that are the same at their rows and columns, whatever stands past the last.
use Rattle.std.specs.Prelude.{◌≡◌, ℕ, ◌<◌}
use Rattle.lp_model.specs.LinearProgram.{LinearProgram}

-- as many rows and columns, and the same at each of them
pub record AreAlike (M R : LinearProgram) : Type 0 where
  pub rows : M.rows ≡ R.rows
  pub columns : M.columns ≡ R.columns
  pub coefficient : (i j : ℕ) → i < M.rows → j < M.columns → M.coefficient i j ≡ R.coefficient i j
  pub lower_side : (i : ℕ) → i < M.rows → M.lower_side i ≡ R.lower_side i
  pub upper_side : (i : ℕ) → i < M.rows → M.upper_side i ≡ R.upper_side i
  pub lower_bound : (j : ℕ) → j < M.columns → M.lower_bound j ≡ R.lower_bound j
  pub upper_bound : (j : ℕ) → j < M.columns → M.upper_bound j ≡ R.upper_bound j
  pub whole : (j : ℕ) → j < M.columns → M.whole j ≡ R.whole j
  pub gap : (j : ℕ) → j < M.columns → M.gap j ≡ R.gap j
  pub costs : (j : ℕ) → j < M.columns → M.costs j ≡ R.costs j
  pub constant : M.constant ≡ R.constant
