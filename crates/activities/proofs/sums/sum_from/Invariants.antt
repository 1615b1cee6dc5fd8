use Rattle.std.proofs.Common.{◌≡◌, length}
use Rattle.row_spans.specs.RowSums.{sum_from}
use Rattle.row_spans.specs.Spans.{ends_at}
use Rattle.activities.proofs.sums.sum_from.Given as goal

-- what is left leads to the same
abbrev pub invariant-loop-rest : goal.invariant-loop-rest
invariant-loop-rest l = sum_from l.total (ends_at l.extreme l.rest) ≡ sum_from l.fn.start (ends_at l.extreme l.spans)

abbrev pub decreases-loop-rest : goal.decreases-loop-rest
decreases-loop-rest l = length l.rest
