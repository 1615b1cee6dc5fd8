use Rattle.std.proofs.Common.{◌≡◌, ◌++◌, length}
use Rattle.problem_model.specs.Matrices.{live_only}
use Rattle.problem_commits.specs.Noting.{rows_noted}
use Rattle.problem_commits.proofs.notes.note_rows.Given as goal

-- what was noted, and what is left to note, is the whole
abbrev pub invariant-loop-rest : goal.invariant-loop-rest
invariant-loop-rest l = l.notes.items ++ rows_noted l.problem (live_only l.problem.matrix.rows l.rest) ≡ l.fn.notes.items ++ rows_noted l.problem (live_only l.problem.matrix.rows l.terms)

abbrev pub decreases-loop-rest : goal.decreases-loop-rest
decreases-loop-rest l = length l.rest
