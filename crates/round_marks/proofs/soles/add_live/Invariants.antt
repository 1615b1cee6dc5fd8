use Rattle.std.proofs.Common.{◌≡◌, ◌++◌, length}
use Rattle.undo_records.specs.Ids.{ids_of}
use Rattle.problem_model.specs.Matrices.{live_only}
use Rattle.round_marks.specs.Soles.{soles}
use Rattle.round_marks.proofs.soles.add_live.Given as goal

-- those so far, and those of the terms that are left
abbrev pub invariant-loop-rest : goal.invariant-loop-rest
invariant-loop-rest l = l.ids.items ++ soles l.problem (ids_of (live_only l.problem.matrix.columns l.rest)) ≡ l.initial.ids.items ++ soles l.problem (ids_of (live_only l.problem.matrix.columns l.terms))

abbrev pub decreases-loop-rest : goal.decreases-loop-rest
decreases-loop-rest l = length l.rest
