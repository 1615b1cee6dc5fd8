-- K1: a row without entries whose sides let 0 through asks nothing.
use Rattle.std.specs.Prelude.{◌≡◌, ℕ, ◌<◌}
use Rattle.fractions.specs.Number.{zero_ℚ}
use Rattle.fractions.specs.Total.{put}
use Rattle.fractions.specs.Ends.{Between}
use Rattle.lp_model.specs.LinearProgram.{LinearProgram}
use Rattle.lp_model.specs.Reductions.{Priced}
use Rattle.lp_model.specs.Edits.{without_row}

-- enabled at row i: no entries, L <= 0 <= U
pub record IsEmptyRow (M : LinearProgram) (i : ℕ) : Type 0 where
  pub row : i < M.rows
  pub empty : (j : ℕ) → j < M.columns → M.coefficient i j ≡ zero_ℚ
  pub within : Between (M.lower_side i) (M.upper_side i) zero_ℚ

-- the row is deleted
abbrev pub empty_row_deleted : LinearProgram → ℕ → LinearProgram
empty_row_deleted M i = without_row M i

-- the point stays, and y_i = 0
abbrev pub undo_empty_row : ℕ → Priced → Priced
undo_empty_row i p = record p { y = put p.y i zero_ℚ }
