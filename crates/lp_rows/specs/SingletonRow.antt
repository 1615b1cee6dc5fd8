-- K2: a row with one entry a at column j becomes bounds of the column.
use Rattle.std.specs.Prelude.{◌≡◌, ◌≢◌, ℕ, ◌<◌, if◌then◌else◌, Option}
use Rattle.fractions.specs.Number.{Number, zero_ℚ}
use Rattle.fractions.specs.Division.{◌/ℚ◌}
use Rattle.fractions.specs.Total.{put}
use Rattle.fractions.specs.Ends.{meet_low, meet_high}
use Rattle.lp_model.specs.LinearProgram.{LinearProgram}
use Rattle.lp_model.specs.Reductions.{Priced}
use Rattle.lp_model.specs.Edits.{without_row, with_bounds}
pub use Rattle.lp_theory.specs.MetEnds.{lower_over, upper_over, is_from_row}

-- enabled at row i: one entry, at column j
pub record IsSingletonRow (M : LinearProgram) (i j : ℕ) : Type 0 where
  pub row : i < M.rows
  pub column : j < M.columns
  pub entry : M.coefficient i j ≢ zero_ℚ
  pub only : (k : ℕ) → k < M.columns → k ≢ j → M.coefficient i k ≡ zero_ℚ

-- the column's bounds met with the row's sides over its entry
abbrev pub met_lower : LinearProgram → ℕ → ℕ → Option Number
met_lower M i j = meet_low (M.lower_bound j) (lower_over (M.coefficient i j) (M.lower_side i) (M.upper_side i))

abbrev pub met_upper : LinearProgram → ℕ → ℕ → Option Number
met_upper M i j = meet_high (M.upper_bound j) (upper_over (M.coefficient i j) (M.lower_side i) (M.upper_side i))

-- the column has these bounds, and the row is deleted
abbrev pub singleton_row_met : LinearProgram → ℕ → ℕ → LinearProgram
singleton_row_met M i j = without_row (with_bounds M j (met_lower M i j) (met_upper M i j)) i

-- where the bound at which x_j holds its reduced cost came from the row, y_i = z_j / a and z_j = 0, else y_i = 0; the point stays
abbrev pub undo_singleton_row : ℕ → ℕ → Number → Option Number → Option Number → Priced → Priced
undo_singleton_row i j a l u p =
    if is_from_row l u (p.x j) (p.z j)
    then record p { y = put p.y i (p.z j /ℚ a); z = put p.z j zero_ℚ }
    else record p { y = put p.y i zero_ℚ }
