-- The ray of a verdict that says that no point is feasible.
use Rattle.std.specs.Prelude.{ℕ, Bool, if◌then◌else◌}
use Rattle.lp_model.specs.EndTests.{is_crossed}
use Rattle.lp_model.specs.LinearProgram.{LinearProgram}
use Rattle.lp_theory.specs.Activities.{least}
use Rattle.lp_rays.specs.Ray.{Weights}
use Rattle.lp_rays.specs.Starts.{no_weights, at_crossed_column, at_crossed_row, at_row_above, at_row_below}
use Rattle.presolve_model.specs.declared.instance.Verdict.{Verdict}
use Rattle.presolve_model.specs.declared.instance.Verdict.TheVariants.{CrossedBounds, CrossedSides, InfeasibleRow, UnboundedColumn}

-- the least activity of row i is above its upper side
abbrev pub is_above : LinearProgram → ℕ → Bool
is_above M i = is_crossed (least M i) (M.upper_side i)

-- of a row that misses a side: the side that it misses
abbrev pub at_missed_side : Bool → LinearProgram → ℕ → Weights
at_missed_side above M i = if above then at_row_above i (M.coefficient i) else at_row_below i (M.coefficient i)

abbrev pub start_of : LinearProgram → Verdict → Weights
start_of M (CrossedBounds j) = at_crossed_column j
start_of M (CrossedSides i) = at_crossed_row i
start_of M (InfeasibleRow i) = at_missed_side (is_above M i) M i
start_of M (UnboundedColumn j) = no_weights
