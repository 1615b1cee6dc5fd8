use Rattle.std.proofs.Common.{◌∷◌, [], ℕ, Option, Some, None, IfSome}
use Rattle.row_spans.specs.Spans.{end_at}
use Rattle.row_spans.specs.declared.span.Extreme.TheVariants.{Greatest}
use Rattle.kept_sums.specs.RowTotals.{both_ends, IsLeastWith}
use Rattle.kept_sums.proofs.Totals.{two_with}
use Rattle.kept_sums.proofs.row_totals.denominator_with.Goals as goal

pub returns-clause-some : goal.returns-clause-some
returns-clause-some c = by c.denominator_with_end-2.result c.denominator_with_end-2.ensures.some
  where
    by : (r : Option ℕ) → IfSome r (IsLeastWith c.in_ok-least.least (end_at Greatest c.args.span.now ∷ [])) → IfSome r (IsLeastWith c.args.common (both_ends (c.args.span.now ∷ [])))
    by None h = tt
    by (Some d) h = two_with c.args.common c.in_ok-least.least d _ _ c.in_ok-least.ensures.some h
