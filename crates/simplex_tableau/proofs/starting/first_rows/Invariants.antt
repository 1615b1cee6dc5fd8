use Rattle.std.proofs.Common.{[]}
use Rattle.lp_model.specs.Meaning.{meaning}
use Rattle.simplex_tableau.specs.Starting.{Lists, IsFirstRow}
use Rattle.simplex_tableau.proofs.starting.first_rows.Given as goal

-- those so far
abbrev pub invariant-loop-k : goal.invariant-loop-k
invariant-loop-k l = Lists [] (IsFirstRow (meaning l.program)) l.k l.rows.items
