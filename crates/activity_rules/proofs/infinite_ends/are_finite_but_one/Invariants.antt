use Rattle.std.proofs.Common.{◌≡◌, length}
use Rattle.row_spans.specs.Spans.{ends_at, spans_among}
use Rattle.activity_rules.specs.Tightened.{at_most_one_infinite}
use Rattle.activity_rules.proofs.infinite_ends.are_finite_but_one.Given as goal

-- those so far are finite, so that what is left decides
abbrev pub invariant-loop-rest : goal.invariant-loop-rest
invariant-loop-rest l = at_most_one_infinite (ends_at l.extreme (spans_among l.problem l.rest)) ≡ at_most_one_infinite (ends_at l.extreme (spans_among l.problem l.terms))

abbrev pub decreases-loop-rest : goal.decreases-loop-rest
decreases-loop-rest l = length l.rest
