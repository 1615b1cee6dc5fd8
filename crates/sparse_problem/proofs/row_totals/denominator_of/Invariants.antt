use Rattle.std.proofs.Common.{length}
use Rattle.row_spans.specs.Spans.{spans_among}
use Rattle.kept_sums.proofs.Walks.{IsDenominatorOf}
use Rattle.sparse_problem.proofs.row_totals.denominator_of.Given as goal

-- the denominator is that of the terms that were passed
abbrev pub invariant-loop-rest : goal.invariant-loop-rest
invariant-loop-rest l = IsDenominatorOf (spans_among l.parts l.terms) l.common (spans_among l.parts l.rest)

abbrev pub decreases-loop-rest : goal.decreases-loop-rest
decreases-loop-rest l = length l.rest
