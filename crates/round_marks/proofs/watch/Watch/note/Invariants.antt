use Rattle.std.proofs.Common.{length}
use Rattle.round_marks.specs.Marking.{Notes, Watched}
use Rattle.round_marks.proofs.watch.Watch.note.Given as goal

-- what comes of the parts that are left comes of all
abbrev pub invariant-loop-rest : goal.invariant-loop-rest
invariant-loop-rest l = (w : Watched) → Notes l.problem l.rest l.self w → Notes l.problem l.changed l.initial.self w

abbrev pub decreases-loop-rest : goal.decreases-loop-rest
decreases-loop-rest l = length l.rest
