use Rattle.std.proofs.Common.{◌≡◌, ◌+◌, ◌++◌, ◌∷◌, List, Option, Some, None, take, drop, ap, ◌∙◌, subst, Ok, IfSome}
use Rattle.fractions.specs.Number.{Number}
use Rattle.kept_sums.specs.CommonSums.{IsCommonSum}
use Rattle.row_spans.specs.RowSums.{row_sum}
use Rattle.row_spans.specs.Spans.{end_at, ends_at}
use Rattle.kept_sums.proofs.Mended.{ends_at-++}
use Rattle.activities.proofs.Pieces.{ends_all_at}
use Rattle.activities.proofs.row_sums.common_rest.Goals as goal

pub returns : goal.returns
returns c = by c.told_rest.result c.told_rest.ensures
  where
    before : List (Option Number)
    before = ends_at c.args.extreme (take c.args.place c.args.spans.now)

    after : List (Option Number)
    after = ends_at c.args.extreme (drop (c.args.place + 1) c.args.spans.now)

    all : IsCommonSum (before ++ end_at c.args.extreme c.index-spans-place.result ∷ after) c.args.sum.now
    all = subst (λ es. IsCommonSum es c.args.sum.now) (ends_all_at c.args.extreme c.args.spans.now c.args.place _ c.requires.place c.index-spans-place.is) c.requires.sum

    by : (o : Option (Option Number)) → IfSome o (λ e. (a b : List (Option Number)) → IsCommonSum (a ++ end_at c.args.extreme c.index-spans-place.result ∷ b) c.args.sum.now → row_sum (a ++ b) ≡ Ok e)
        → IfSome o (λ e. row_sum (ends_at c.args.extreme (take c.args.place c.args.spans.now ++ drop (c.args.place + 1) c.args.spans.now)) ≡ Ok e)
    by None h = h
    by (Some e) h = ap row_sum (ends_at-++ c.args.extreme (take c.args.place c.args.spans.now) (drop (c.args.place + 1) c.args.spans.now)) ∙ h before after all
