use Rattle.std.proofs.Common.{◌≡◌, ◌+◌, ◌≤◌, length}
use Rattle.mps_profile.specs.Fields.{misplaced_from, has_misplaced}
use Rattle.mps_cards.proofs.column_texts.has_misplaced.Given as goal

abbrev pub invariant-loop-left : goal.invariant-loop-left
invariant-loop-left l = (misplaced_from l.column l.left ≡ has_misplaced l.fn.line) × (l.column + length l.left ≤ 61)

abbrev pub decreases-loop-left : goal.decreases-loop-left
decreases-loop-left l = length l.left
