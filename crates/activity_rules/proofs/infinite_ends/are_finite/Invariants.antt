use Rattle.std.proofs.Common.{◌≡◌, length}
use Rattle.row_spans.specs.RowSums.{all_finite}
use Rattle.row_spans.specs.Spans.{ends_at, spans_among}
use Rattle.activity_rules.proofs.infinite_ends.are_finite.Given as goal

-- what is left decides
abbrev pub invariant-loop-rest : goal.invariant-loop-rest
invariant-loop-rest l = all_finite (ends_at l.extreme (spans_among l.problem l.rest)) ≡ all_finite (ends_at l.extreme (spans_among l.problem l.terms))

abbrev pub decreases-loop-rest : goal.decreases-loop-rest
decreases-loop-rest l = length l.rest
