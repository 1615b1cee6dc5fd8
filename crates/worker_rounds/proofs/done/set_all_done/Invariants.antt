use Rattle.std.proofs.Common.{◌≡◌, ℕ, length}
use Rattle.worker_rounds.specs.Done.{IsSet}
use Rattle.worker_rounds.specs.Workers.{IsDone}
use Rattle.worker_rounds.proofs.done.set_all_done.Given as goal

abbrev pub invariant-loop-worker : goal.invariant-loop-worker
invariant-loop-worker l = record {
  long : length l.flags ≡ length l.initial.flags;
  done : (i : ℕ) → IsSet l.flags i → IsDone l.workers i;
}
