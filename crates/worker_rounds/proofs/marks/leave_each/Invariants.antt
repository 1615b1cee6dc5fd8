use Rattle.std.proofs.Common.{take}
use Rattle.worker_rounds.specs.Marking.{Leaves}
use Rattle.worker_rounds.proofs.marks.leave_each.Given as goal

-- those so far
abbrev pub invariant-loop-instance : goal.invariant-loop-instance
invariant-loop-instance l = Leaves (take l.instance-index l.found) l.initial.watch l.watch
