use Rattle.std.proofs.Common.{◌++◌, ◌∷◌, [], List, Option, IfSome, Some, None}
use Rattle.fractions.specs.Number.{Number}
use Rattle.row_spans.specs.Spans.{end_at}
use Rattle.kept_sums.specs.CommonSums.{IsCommonSum}
use Rattle.kept_sums.specs.declared.common.CommonSum.{CommonSum}
use Rattle.kept_sums.proofs.Mended.{last_more}
use Rattle.kept_sums.proofs.common.plus_last.Goals as goal

pub returns : goal.returns
returns c = by c.plus_term.result c.plus_term.ensures.value
  where
    by : (r : Option CommonSum) → IfSome r (λ t. (a b : List (Option Number)) → IsCommonSum (a ++ b) c.args.sum.now → IsCommonSum (a ++ end_at c.args.extreme c.args.span.now ∷ b) t)
        → IfSome r (λ t. (es : List (Option Number)) → IsCommonSum es c.args.sum.now → IsCommonSum (es ++ end_at c.args.extreme c.args.span.now ∷ []) t)
    by None h = tt
    by (Some t) h = λ es k. last_more es (end_at c.args.extreme c.args.span.now) c.args.sum.now t h k
