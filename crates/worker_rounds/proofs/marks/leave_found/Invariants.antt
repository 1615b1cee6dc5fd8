use Rattle.std.proofs.Common.{take}
use Rattle.worker_rounds.specs.Marking.{LeavesFound}
use Rattle.worker_rounds.proofs.marks.leave_found.Given as goal

-- those of the workers so far
abbrev pub invariant-loop-worker : goal.invariant-loop-worker
invariant-loop-worker l = LeavesFound (take l.worker-index l.workers) l.initial.watch l.watch
