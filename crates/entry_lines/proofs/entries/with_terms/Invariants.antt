use Rattle.std.proofs.Common.{length}
use Rattle.entry_lines.proofs.Putting.{Passing}
use Rattle.entry_lines.proofs.entries.with_terms.Given as goal

-- where putting stands
abbrev pub invariant-loop-rest : goal.invariant-loop-rest
invariant-loop-rest l = Passing l.line l.terms l.items.items l.left l.rest l.live_entries

abbrev pub decreases-loop-rest : goal.decreases-loop-rest
decreases-loop-rest l = length l.rest
