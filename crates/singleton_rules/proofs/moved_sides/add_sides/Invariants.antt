use Rattle.std.proofs.Common.{◌≡◌, ◌++◌, map, take}
use Rattle.std.specs.List.{All}
use Rattle.rule_words.specs.MovedSides.{sides_less, SidesFit}
use Rattle.singleton_rules.proofs.moved_sides.add_sides.Given as goal

-- the sides so far, of which no number is past
abbrev pub invariant-loop-term : goal.invariant-loop-term
invariant-loop-term l = (l.all.items ≡ l.initial.all.items ++ map (sides_less l.problem l.shift) (take l.term-index l.terms)) × All (SidesFit l.problem l.shift) (take l.term-index l.terms)
