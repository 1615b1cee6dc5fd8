-- A linear program without what stands in a column.
use Rattle.std.specs.Prelude.{ℕ, false, None}
use Rattle.fractions.specs.Number.{zero_ℚ}
use Rattle.fractions.specs.Total.{put}
use Rattle.lp_model.specs.LinearProgram.{LinearProgram}

-- column j without coefficients, cost and bounds, and not whole; the sides of its rows stay as they are
abbrev pub column_left_out : LinearProgram → ℕ → LinearProgram
column_left_out M j = record M {
  coefficient = λ i. put (M.coefficient i) j zero_ℚ;
  lower_bound = put M.lower_bound j None;
  upper_bound = put M.upper_bound j None;
  whole = put M.whole j false;
  gap = put M.gap j None;
  costs = put M.costs j zero_ℚ;
}
