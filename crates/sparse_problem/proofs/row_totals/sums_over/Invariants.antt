use Rattle.std.proofs.Common.{◌+◌, ◌<◌, ◌^◌, length}
use Rattle.row_spans.specs.Spans.{spans_among}
use Rattle.kept_sums.proofs.Walks.{AreSumsLeft}
use Rattle.sparse_problem.proofs.row_totals.sums_over.Given as goal

-- the sums are those of the terms that were passed
abbrev pub invariant-loop-rest : goal.invariant-loop-rest
invariant-loop-rest l = AreSumsLeft l.denominator (spans_among l.parts l.terms) l.sums (spans_among l.parts l.rest) × (l.sums.least.infinite + length l.rest < 2 ^ 32) × (l.sums.greatest.infinite + length l.rest < 2 ^ 32)

abbrev pub decreases-loop-rest : goal.decreases-loop-rest
decreases-loop-rest l = length l.rest
