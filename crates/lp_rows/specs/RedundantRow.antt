-- K5: a row whose sides its columns' bounds already keep asks nothing.
use Rattle.std.specs.Prelude.{ℕ, ◌<◌}
use Rattle.fractions.specs.Number.{zero_ℚ}
use Rattle.fractions.specs.Total.{put}
use Rattle.fractions.specs.Ends.{LowBelow, HighAbove}
use Rattle.lp_model.specs.LinearProgram.{LinearProgram}
use Rattle.lp_model.specs.Reductions.{Priced}
use Rattle.lp_theory.specs.Activities.{least, greatest}
use Rattle.lp_model.specs.Edits.{without_row}

-- enabled at row i: the least activity is at least L, the greatest at most U; that the row has an entry only the scan asks
pub record IsRedundantRow (M : LinearProgram) (i : ℕ) : Type 0 where
  pub row : i < M.rows
  pub lower : LowBelow (M.lower_side i) (least M i)
  pub upper : HighAbove (M.upper_side i) (greatest M i)

-- the row is deleted
abbrev pub redundant_row_deleted : LinearProgram → ℕ → LinearProgram
redundant_row_deleted M i = without_row M i

-- the point stays, and y_i = 0
abbrev pub undo_redundant_row : ℕ → Priced → Priced
undo_redundant_row i p = record p { y = put p.y i zero_ℚ }
