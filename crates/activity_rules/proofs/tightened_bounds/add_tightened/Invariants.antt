use Rattle.std.proofs.Common.{◌≡◌, ◌++◌, length}
use Rattle.activity_rules.proofs.tightened_bounds.add_tightened.Given as goal

-- those so far, so that with those that are left they are all
abbrev pub invariant-loop-bound : goal.invariant-loop-bound
invariant-loop-bound l = l.found.items ++ l.bounds ≡ l.initial.found.items ++ l.initial.bounds

abbrev pub decreases-loop-bound : goal.decreases-loop-bound
decreases-loop-bound l = length l.bounds
