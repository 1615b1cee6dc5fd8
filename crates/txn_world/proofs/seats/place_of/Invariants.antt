use Rattle.std.proofs.Common.{◌≢◌, ℕ, ◌<◌}
use Rattle.txn_world.specs.Workers.{nth_worker}
use Rattle.txn_world.proofs.seats.place_of.Given as goal

-- no worker before this place has the number
abbrev pub invariant-loop-place : goal.invariant-loop-place
invariant-loop-place l = (k : ℕ) → k < l.place → (nth_worker l.workers k).number ≢ l.number
