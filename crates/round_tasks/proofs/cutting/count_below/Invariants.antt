use Rattle.std.proofs.Common.{ℕ, ◌<◌, ◌≤◌, ◌-◌, length, get_or}
use Rattle.round_tasks.proofs.cutting.count_below.Given as goal

-- those so far come before the end
abbrev pub invariant-loop-count : goal.invariant-loop-count
invariant-loop-count l = record {
  inside : l.count ≤ length l.ids;
  below : (k : ℕ) → k < l.count → get_or l.ids k 0 < l.end;
}

abbrev pub decreases-loop-count : goal.decreases-loop-count
decreases-loop-count l = length l.ids - l.count
