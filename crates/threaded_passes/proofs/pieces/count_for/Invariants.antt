use Rattle.std.proofs.Common.{◌<◌, ◌≤◌, ◌-◌, length}
use Rattle.threaded_passes.proofs.pieces.count_for.Given as goal

abbrev pub invariant-loop-count : goal.invariant-loop-count
invariant-loop-count l = (0 < l.count) × (l.count ≤ length l.ids)

abbrev pub decreases-loop-count : goal.decreases-loop-count
decreases-loop-count l = length l.ids - l.count
