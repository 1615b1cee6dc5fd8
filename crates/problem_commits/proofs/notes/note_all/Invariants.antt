use Rattle.std.proofs.Common.{◌≡◌, ◌++◌, length}
use Rattle.problem_commits.specs.Noting.{all_noted}
use Rattle.problem_commits.proofs.notes.note_all.Given as goal

-- what was noted, and what is left to note, is the whole
abbrev pub invariant-loop-rest : goal.invariant-loop-rest
invariant-loop-rest l = l.notes.items ++ all_noted l.problem l.rest ≡ all_noted l.problem l.edits

abbrev pub decreases-loop-rest : goal.decreases-loop-rest
decreases-loop-rest l = length l.rest
