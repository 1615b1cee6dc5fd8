use Rattle.std.proofs.Common.{[]}
use Rattle.tableau_rows.specs.Places.{ReplacesAt, ReplaceFitsAt}
use Rattle.tableau_rows.proofs.Sweeps.{Swept, Both}
use Rattle.tableau_rows.proofs.rows.replace_rows.Given as goal

-- those so far
abbrev pub invariant-loop-row : goal.invariant-loop-row
invariant-loop-row l = Swept (Both (ReplacesAt l.b l.e l.line) (ReplaceFitsAt l.b l.e l.line)) [] l.row-index l.fn.rows.items l.row-items
