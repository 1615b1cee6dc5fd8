use Rattle.std.proofs.Common.{◌↔◌, length}
use Rattle.lp_model.specs.Names.{Differ, names_of_rows}
use Rattle.lp_model.proofs.plain.rows_differ.Given as goal

-- the rest differs just where all do
abbrev pub invariant-loop-first : goal.invariant-loop-first
invariant-loop-first l = Differ (names_of_rows l.rest) ↔ Differ (names_of_rows l.fn.rows)

abbrev pub decreases-loop-first : goal.decreases-loop-first
decreases-loop-first l = length l.rest
