use Rattle.std.proofs.Common.{◌≡◌, length, drop}
use Rattle.entry_lines.specs.Across.{scattered}
use Rattle.entry_lines.proofs.transpose.scatter.Given as goal

-- what is left to scatter gives the result
abbrev pub invariant-loop-term : goal.invariant-loop-term
invariant-loop-term l = record {
  same : scattered l.j l.rows (drop l.term-index l.terms) ≡ scattered l.j l.initial.rows l.terms;
  long : length l.rows ≡ length l.initial.rows;
}
