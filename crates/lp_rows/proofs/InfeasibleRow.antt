-- Sides out of reach.
use Rattle.std.proofs.Common.{ℕ}
use Rattle.lp_model.specs.LinearProgram.{LinearProgram, value_at}
use Rattle.lp_model.specs.Verdicts.{NoPoint}
use Rattle.lp_theory.specs.Activities.{least, greatest}
use Rattle.lp_theory.proofs.ActivityLaws.{least-value, greatest-value}
use Rattle.lp_theory.proofs.CrossedEnds.{not_crossed}
use Rattle.lp_rows.specs.InfeasibleRow.{IsAboveUpperSide, IsBelowLowerSide}

pub above_upper_side : (M : LinearProgram) (i : ℕ) → IsAboveUpperSide M i → NoPoint M
above_upper_side M i c x h = not_crossed (least M i) (M.upper_side i) (value_at M i x) c.above (record { low = least-value M i x h.columns; high = (h.rows i c.row).high })

pub below_lower_side : (M : LinearProgram) (i : ℕ) → IsBelowLowerSide M i → NoPoint M
below_lower_side M i c x h = not_crossed (M.lower_side i) (greatest M i) (value_at M i x) c.below (record { low = (h.rows i c.row).low; high = greatest-value M i x h.columns })
