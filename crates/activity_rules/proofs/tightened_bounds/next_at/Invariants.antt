use Rattle.std.proofs.Common.{◌≡◌, ◌-◌, length, None}
use Rattle.activity_rules.specs.Tightened.{left_of}
use Rattle.activity_rules.proofs.tightened_bounds.next_at.Given as goal

-- nothing was found so far, and no upper bound is kept
abbrev pub invariant-loop-cursor : goal.invariant-loop-cursor
invariant-loop-cursor l = record {
  kept : l.cursor.upper ≡ None;
  left : left_of l.sides l.sums l.cursor ≡ left_of l.initial.sides l.sums l.initial.cursor;
}

abbrev pub decreases-loop-cursor : goal.decreases-loop-cursor
decreases-loop-cursor l = length l.sums - l.cursor.place
