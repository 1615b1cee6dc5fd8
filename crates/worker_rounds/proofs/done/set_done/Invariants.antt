use Rattle.std.proofs.Common.{take}
use Rattle.worker_rounds.specs.Done.{Sets}
use Rattle.worker_rounds.proofs.done.set_done.Given as goal

-- those of the tasks so far are set
abbrev pub invariant-loop-number : goal.invariant-loop-number
invariant-loop-number l = Sets (take l.number-index l.done) l.initial.flags l.flags
