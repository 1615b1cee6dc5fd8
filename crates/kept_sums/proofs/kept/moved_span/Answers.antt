use Rattle.std.proofs.Common.{◌++◌, ◌∷◌, List, Option, Some, None, IfSome, subst}
use Rattle.row_spans.specs.declared.span.Span.{Span}
use Rattle.row_spans.specs.Spans.{ends_at}
use Rattle.fractions.specs.Number.{Number}
use Rattle.kept_sums.specs.CommonSums.{IsCommonSum}
use Rattle.kept_sums.specs.declared.common.CommonSum.{CommonSum}
use Rattle.kept_sums.proofs.Moving.{ends_swapped}
use Rattle.kept_sums.proofs.kept.moved_span.Goals as goal

pub returns-then-gives_same-clause-value : goal.returns-then-gives_same-clause-value
returns-then-gives_same-clause-value c a b h =
    subst (λ (es : List (Option Number)). IsCommonSum es c.args.sum.now) (ends_swapped c.args.extreme a b c.args.before.now c.args.after.now (c.gives_same.ensures c.if-gives_same.true)) h

pub returns-clause-value : goal.returns-clause-value
returns-clause-value c = by c.with_span.result c.with_span.ensures.value
  where
    by : (o : Option CommonSum) → IfSome o (λ t. (a b : List Span) → IsCommonSum (ends_at c.args.extreme (a ++ b)) c.in_ok-rest.rest → IsCommonSum (ends_at c.args.extreme (a ++ c.args.after.now ∷ b)) t)
        → IfSome o (λ t. (a b : List Span) → IsCommonSum (ends_at c.args.extreme (a ++ c.args.before.now ∷ b)) c.args.sum.now → IsCommonSum (ends_at c.args.extreme (a ++ c.args.after.now ∷ b)) t)
    by None f = tt
    by (Some t) f = λ a b h. f a b (c.in_ok-rest.ensures.value a b h)
