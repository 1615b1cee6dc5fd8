use Rattle.std.proofs.Common.{◌≡◌, length}
use Rattle.std.specs.Prelude.{reverse}
use Rattle.mps_profile.specs.Fields.{no_first}
use Rattle.mps_cards.proofs.column_texts.without_last.Given as goal

abbrev pub invariant-loop-left : goal.invariant-loop-left
invariant-loop-left l = no_first (reverse l.left) ≡ no_first (reverse l.fn.part)

abbrev pub decreases-loop-left : goal.decreases-loop-left
decreases-loop-left l = length l.left
