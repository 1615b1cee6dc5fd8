use Rattle.std.proofs.Common.{ℕ, ◌<◌}
use Rattle.worker_rounds.specs.Done.{IsSet}
use Rattle.worker_rounds.proofs.done.is_each_set.Given as goal

-- those so far are set
abbrev pub invariant-loop-place : goal.invariant-loop-place
invariant-loop-place l = (i : ℕ) → i < l.place → IsSet l.flags i
