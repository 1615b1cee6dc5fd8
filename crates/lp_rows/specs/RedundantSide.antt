-- K6: a side that the columns' bounds already keep is dropped.
use Rattle.std.specs.Prelude.{ℕ, ◌<◌, None}
use Rattle.fractions.specs.Ends.{LowBelow, HighAbove}
use Rattle.lp_model.specs.LinearProgram.{LinearProgram}
use Rattle.lp_theory.specs.Activities.{least, greatest}
use Rattle.lp_model.specs.Edits.{with_sides}

-- Enabled at row i: the least activity is at least L, or the greatest at most U. That the row has an entry, that both sides are
-- finite and that the other one is not kept only the scan asks.
pub record IsRedundantLowerSide (M : LinearProgram) (i : ℕ) : Type 0 where
  pub row : i < M.rows
  pub lower : LowBelow (M.lower_side i) (least M i)

pub record IsRedundantUpperSide (M : LinearProgram) (i : ℕ) : Type 0 where
  pub row : i < M.rows
  pub upper : HighAbove (M.upper_side i) (greatest M i)

-- that side is none; nothing is to be undone
abbrev pub lower_side_dropped : LinearProgram → ℕ → LinearProgram
lower_side_dropped M i = with_sides M i None (M.upper_side i)

abbrev pub upper_side_dropped : LinearProgram → ℕ → LinearProgram
upper_side_dropped M i = with_sides M i (M.lower_side i) None
