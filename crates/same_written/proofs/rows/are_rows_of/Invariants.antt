use Rattle.std.proofs.Common.{◌≡◌, ◌↔◌, drop}
use Rattle.problem_model.specs.Programs.{written_rows}
use Rattle.same_written.proofs.rows.are_rows_of.Given as goal

-- the rows are what is written where what is left of them is
abbrev pub invariant-loop-i : goal.invariant-loop-i
invariant-loop-i l = (l.left ≡ written_rows (drop l.i l.originals) (drop l.i l.problem.matrix.rows) (drop l.i l.problem.sides)) ↔ (l.rows ≡ written_rows l.originals l.problem.matrix.rows l.problem.sides)
