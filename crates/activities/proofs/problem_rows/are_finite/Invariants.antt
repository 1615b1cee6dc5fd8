use Rattle.std.proofs.Common.{◌≡◌, length}
use Rattle.row_spans.specs.RowSums.{all_finite}
use Rattle.row_spans.specs.Spans.{ends_at}
use Rattle.activities.specs.Walks.{spans_seen}
use Rattle.activities.proofs.problem_rows.are_finite.Given as goal

-- what is left decides
abbrev pub invariant-loop-rest : goal.invariant-loop-rest
invariant-loop-rest l = all_finite (ends_at l.extreme (spans_seen l.problem l.left_out l.rest)) ≡ all_finite (ends_at l.extreme (spans_seen l.problem l.left_out l.terms))

abbrev pub decreases-loop-rest : goal.decreases-loop-rest
decreases-loop-rest l = length l.rest
