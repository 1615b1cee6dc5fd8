use Rattle.std.proofs.Common.{◌≡◌, ◌++◌, length, Ok}
use Rattle.fractions.specs.Number.{zero_ℚ}
use Rattle.activities.specs.Prefixes.{sums_before}
use Rattle.row_spans.specs.Spans.{ends_at}
use Rattle.activities.proofs.prefixes.sums_before.Given as goal

-- those that are made, and those of what is left
abbrev pub invariant-loop-rest : goal.invariant-loop-rest
invariant-loop-rest l = l.sums.items ++ sums_before l.total (ends_at l.extreme l.rest) ≡ sums_before (Ok zero_ℚ) (ends_at l.extreme l.spans)

abbrev pub decreases-loop-rest : goal.decreases-loop-rest
decreases-loop-rest l = length l.rest
