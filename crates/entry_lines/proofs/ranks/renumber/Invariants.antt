use Rattle.std.proofs.Common.{◌≡◌, take}
use Rattle.problem_model.specs.Programs.{renumbered}
use Rattle.entry_lines.proofs.ranks.renumber.Given as goal

-- the terms so far
abbrev pub invariant-loop-term : goal.invariant-loop-term
invariant-loop-term l = l.items.items ≡ renumbered l.lines (take l.term-index l.terms)
