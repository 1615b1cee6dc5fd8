use Rattle.std.proofs.Common.{◌≡◌, length}
use Rattle.row_spans.specs.Spans.{spans_among}
use Rattle.activity_laws.specs.Rows.{all_in_order}
use Rattle.activities.proofs.rows.all_bounds_in_order.Given as goal

-- those so far are in order, so that all depends on those that are left
abbrev pub invariant-loop-rest : goal.invariant-loop-rest
invariant-loop-rest l = all_in_order (spans_among l.problem l.rest) ≡ all_in_order (spans_among l.problem l.terms)

abbrev pub decreases-loop-rest : goal.decreases-loop-rest
decreases-loop-rest l = length l.rest
