use Rattle.std.proofs.Common.{◌≡◌, length}
use Rattle.mps_profile.specs.Fields.{no_first}
use Rattle.mps_cards.proofs.column_texts.without_first.Given as goal

abbrev pub invariant-loop-left : goal.invariant-loop-left
invariant-loop-left l = no_first l.left ≡ no_first l.fn.part

abbrev pub decreases-loop-left : goal.decreases-loop-left
decreases-loop-left l = length l.left
