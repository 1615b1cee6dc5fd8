use Rattle.std.proofs.Common.{◌≡◌, ℕ, length}
use Rattle.worker_rounds.specs.Done.{IsSet}
use Rattle.worker_rounds.proofs.done.flags_down.Given as goal

abbrev pub invariant-loop : goal.invariant-loop
invariant-loop l = record {
  long : length l.flags.items ≡ l.counter;
  down : (i : ℕ) → IsSet l.flags.items i → ⊥;
}
