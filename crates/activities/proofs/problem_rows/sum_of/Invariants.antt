use Rattle.std.proofs.Common.{◌≡◌, length}
use Rattle.fractions.specs.Number.{zero_ℚ}
use Rattle.row_spans.specs.RowSums.{sum_from}
use Rattle.row_spans.specs.Spans.{ends_at}
use Rattle.activities.specs.Walks.{spans_seen}
use Rattle.activities.proofs.problem_rows.sum_of.Given as goal

-- what is left leads to the same
abbrev pub invariant-loop-rest : goal.invariant-loop-rest
invariant-loop-rest l = sum_from l.total (ends_at l.extreme (spans_seen l.problem l.left_out l.rest)) ≡ sum_from zero_ℚ (ends_at l.extreme (spans_seen l.problem l.left_out l.terms))

abbrev pub decreases-loop-rest : goal.decreases-loop-rest
decreases-loop-rest l = length l.rest
