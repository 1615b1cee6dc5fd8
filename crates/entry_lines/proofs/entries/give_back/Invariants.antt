use Rattle.std.proofs.Common.{◌≡◌, length}
use Rattle.entry_lines.specs.Putting.{given_back, AreInside}
use Rattle.entry_lines.proofs.entries.give_back.Given as goal

-- what is left to give back leads to the same
abbrev pub invariant-loop-last : goal.invariant-loop-last
invariant-loop-last l = record {
  same : given_back l.left.items l.lines.items ≡ given_back l.fn.held.items l.fn.lines.items;
  inside : AreInside l.left.items l.lines.items;
}

abbrev pub decreases-loop-last : goal.decreases-loop-last
decreases-loop-last l = length l.left.items
