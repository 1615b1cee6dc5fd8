use Rattle.std.proofs.Common.{List, sym, subst}
use Rattle.row_spans.specs.declared.span.Span.{Span}
use Rattle.row_spans.specs.declared.span.Extreme.TheVariants.{Least, Greatest}
use Rattle.row_spans.specs.Spans.{AreSpans, ends_at}
use Rattle.row_spans.proofs.Reading.{spans_of-are}
use Rattle.activities.specs.Kept.{IsKept}
use Rattle.activities.proofs.row_sums.RowSums.of_row.Goals as goal

pub invariant_of-result : goal.invariant_of-result
invariant_of-result c = record {
  spans = subst (AreSpans 0) (sym c.in_ok-spans.ensures) (spans_of-are c.args.problem.now c.args.row c.is_sparse.ensures);
  of_least = subst (λ (ss : List Span). IsKept (ends_at Least ss) c.in_ok-sums.sums.least) c.as_slice.ensures.value c.in_ok-sums.ensures.0;
  of_greatest = subst (λ (ss : List Span). IsKept (ends_at Greatest ss) c.in_ok-sums.sums.greatest) c.as_slice.ensures.value c.in_ok-sums.ensures.1;
}
