-- A column deleted whose part is taken over elsewhere.
use Rattle.std.specs.Prelude.{ℕ, false, None}
use Rattle.fractions.specs.Number.{zero_ℚ}
use Rattle.fractions.specs.Total.{put}
use Rattle.lp_model.specs.LinearProgram.{LinearProgram}

-- column j deleted: no coefficients, no cost, no bounds, and not whole; the sides of its rows stay
abbrev pub column_dropped : LinearProgram → ℕ → LinearProgram
column_dropped M j = record M {
  coefficient = λ i. put (M.coefficient i) j zero_ℚ;
  lower_bound = put M.lower_bound j None;
  upper_bound = put M.upper_bound j None;
  whole = put M.whole j false;
  gap = put M.gap j None;
  costs = put M.costs j zero_ℚ;
}
