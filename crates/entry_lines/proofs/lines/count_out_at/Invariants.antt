use Rattle.std.proofs.Common.{◌≡◌, length, drop}
use Rattle.entry_lines.specs.Losses.{counted_out_at}
use Rattle.entry_lines.proofs.lines.count_out_at.Given as goal

-- what is left to count out gives the result
abbrev pub invariant-loop-term : goal.invariant-loop-term
invariant-loop-term l = record {
  same : counted_out_at l.others l.lines (drop l.term-index l.terms) ≡ counted_out_at l.others l.initial.lines l.terms;
  long : length l.lines ≡ length l.initial.lines;
}
