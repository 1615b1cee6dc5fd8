-- A side that tells of no better bound of the column of the entry at a place.
use Rattle.std.proofs.Common.{◌≡◌, ℕ, ◌+◌, ◌<◌, ◌++◌, ◌∷◌, List, Option, Result, length, get_or, take, drop, sym, ap, ◌∙◌, subst}
use Rattle.fractions.specs.Number.{Number}
use Rattle.fractions.specs.declared.Past.{Past}
use Rattle.kept_sums.specs.CommonSums.{IsCommonSum}
use Rattle.kept_sums.specs.KeptSides.{IsQuiet}
use Rattle.kept_sums.specs.declared.common.CommonSum.{CommonSum}
use Rattle.row_spans.specs.declared.span.Span.{Span}
use Rattle.row_spans.specs.declared.span.Extreme.{Extreme}
use Rattle.row_spans.specs.RowSums.{activity, rest, row_sum}
use Rattle.row_spans.specs.Spans.{AreSpans, end_at, ends_at, span_at}
use Rattle.kept_sums.proofs.Mended.{ends_at-++}
use Rattle.kept_sums.proofs.Replaced.{span_read, span_there}
use Rattle.activities.proofs.Pieces.{ends_all_at, others_place}

-- it tells of none beside the rest without that entry's column
pub quiet_there : (x : Extreme) (ss : List Span) (k : ℕ) (r : Span) (s : CommonSum) (side : Option Number) → AreSpans 0 ss → k < length ss → r ≡ get_or ss k r → IsCommonSum (ends_at x ss) s
    → ((a b : List (Option Number)) → IsCommonSum (a ++ end_at x r ∷ b) s → IsQuiet x side r (row_sum (a ++ b))) → IsQuiet x side (span_at ss k) (rest x (span_at ss k).id ss)
quiet_there x ss k r s side spans inside is sum keeps = subst (λ (t : Result (Option Number) Past). IsQuiet x side (span_at ss k) t) (sym (ap (activity x) (others_place ss k spans inside) ∙ same))
    (subst (λ (t : Span). IsQuiet x side t (row_sum (before ++ after))) read (keeps before after all))
  where
    read : r ≡ span_at ss k
    read = span_read ss k r inside is

    before : List (Option Number)
    before = ends_at x (take k ss)

    after : List (Option Number)
    after = ends_at x (drop (k + 1) ss)

    all : IsCommonSum (before ++ end_at x r ∷ after) s
    all = subst (λ (t : Span). IsCommonSum (before ++ end_at x t ∷ after) s) (sym read)
        (subst (λ es. IsCommonSum es s) (ends_all_at x ss k (span_at ss k) inside (span_there ss k inside)) sum)

    same : activity x (take k ss ++ drop (k + 1) ss) ≡ row_sum (before ++ after)
    same = ap row_sum (ends_at-++ x (take k ss) (drop (k + 1) ss))
