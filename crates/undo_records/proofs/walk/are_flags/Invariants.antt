use Rattle.std.proofs.Common.{◌≡◌, ◌↔◌, length}
use Rattle.undo_records.specs.Walk.{lives}
use Rattle.undo_records.proofs.walk.are_flags.Given as goal

abbrev pub invariant-loop-rest : goal.invariant-loop-rest
invariant-loop-rest l = (l.left ≡ lives l.rest) ↔ (l.flags ≡ lives l.labels)

abbrev pub decreases-loop-rest : goal.decreases-loop-rest
decreases-loop-rest l = length l.rest
