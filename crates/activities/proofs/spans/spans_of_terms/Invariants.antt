use Rattle.std.proofs.Common.{◌≡◌, ◌++◌, length}
use Rattle.row_spans.specs.Spans.{spans_among}
use Rattle.activities.proofs.spans.spans_of_terms.Given as goal

-- those that were passed, and those of what is left
abbrev pub invariant-loop-rest : goal.invariant-loop-rest
invariant-loop-rest l = l.spans.items ++ spans_among l.problem l.rest ≡ spans_among l.problem l.terms

abbrev pub decreases-loop-rest : goal.decreases-loop-rest
decreases-loop-rest l = length l.rest
