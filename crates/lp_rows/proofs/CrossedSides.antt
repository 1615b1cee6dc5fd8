-- Crossed sides.
use Rattle.std.proofs.Common.{ℕ}
use Rattle.lp_model.specs.LinearProgram.{LinearProgram, value_at}
use Rattle.lp_model.specs.Verdicts.{NoPoint}
use Rattle.lp_theory.proofs.CrossedEnds.{not_crossed}
use Rattle.lp_rows.specs.CrossedSides.{IsCrossedRow}

pub crossed_row : (M : LinearProgram) (i : ℕ) → IsCrossedRow M i → NoPoint M
crossed_row M i c x h = not_crossed (M.lower_side i) (M.upper_side i) (value_at M i x) c.crossed (h.rows i c.row)
