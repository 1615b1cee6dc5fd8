use Rattle.tableau_rows.specs.Places.{row_of, MovedAt, MoveFitsAt}
use Rattle.fractions.specs.Number.{zero_ℚ}
use Rattle.tableau_rows.proofs.Sweeps.{Swept, Both}
use Rattle.tableau_rows.proofs.rows.move_others.Given as goal

-- those so far
abbrev pub invariant-loop-m : goal.invariant-loop-m
invariant-loop-m l = Swept (Both (MovedAt l.b l.e (row_of l.rows) l.w) (MoveFitsAt l.b l.e (row_of l.rows) l.w)) zero_ℚ l.m l.initial.values l.values
