use Rattle.fractions.specs.Number.{zero_ℚ}
use Rattle.tableau_rows.specs.Places.{TurnedAt, TurnFitsAt}
use Rattle.tableau_rows.proofs.Sweeps.{Swept, Both}
use Rattle.tableau_rows.proofs.rows.turn_others.Given as goal

-- those so far
abbrev pub invariant-loop-k : goal.invariant-loop-k
invariant-loop-k l = Swept (Both (TurnedAt l.b l.e l.divisor) (TurnFitsAt l.b l.e l.divisor)) zero_ℚ l.k l.initial.row l.row
