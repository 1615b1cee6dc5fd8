use Rattle.std.proofs.Common.{◌≡◌, take}
use Rattle.entry_lines.specs.Putting.{rows_held}
use Rattle.entry_lines.proofs.entries.rows_with.Given as goal

-- those of the terms so far
abbrev pub invariant-loop-term : goal.invariant-loop-term
invariant-loop-term l = l.held.items ≡ rows_held l.lines l.k (take l.term-index l.terms)
