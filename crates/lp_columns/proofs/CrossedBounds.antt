-- Crossed bounds.
use Rattle.std.proofs.Common.{ℕ, Option, Some, None}
use Rattle.fractions.specs.Number.{Number}
use Rattle.fractions.specs.Order.{≤ℚ_trans, <ℚ-not}
use Rattle.fractions.specs.Ends.{Between}
use Rattle.lp_model.specs.LinearProgram.{LinearProgram}
use Rattle.lp_model.specs.Verdicts.{NoPoint}
use Rattle.lp_theory.specs.Crossed.{AreCrossed}
use Rattle.lp_columns.specs.CrossedBounds.{IsCrossedColumn}

not_crossed : (l u : Option Number) (x : Number) → AreCrossed l u → Between l u x → ⊥
not_crossed None u x c b = absurd c
not_crossed (Some l) None x c b = absurd c
not_crossed (Some l) (Some u) x c b = <ℚ-not c (≤ℚ_trans b.low b.high)

pub crossed_column : (M : LinearProgram) (j : ℕ) → IsCrossedColumn M j → NoPoint M
crossed_column M j c x h = not_crossed (M.lower_bound j) (M.upper_bound j) (x j) c.crossed (h.columns j c.column)
