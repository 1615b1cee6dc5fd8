use Rattle.std.proofs.Common.{take}
use Rattle.row_spans.specs.Spans.{spans_among}
use Rattle.kept_sums.specs.KeptSums.{AreSumsOf, HaveRoom}
use Rattle.sparse_problem.proofs.kept_rows.sums_of_terms.Given as goal

-- the sums are those of the terms that were passed
abbrev pub invariant-loop-term : goal.invariant-loop-term
invariant-loop-term l = HaveRoom l.kept × AreSumsOf (spans_among l.parts (take l.term-index l.terms)) l.kept
