-- Ends of a row in two pieces, and a sum with one more at the end.
use Rattle.std.proofs.Common.{◌≡◌, List, [], ◌∷◌, ◌++◌, Option, refl, ap, sym, subst}
use Rattle.fractions.specs.Number.{Number}
use Rattle.row_spans.specs.declared.span.Span.{Span}
use Rattle.row_spans.specs.declared.span.Extreme.{Extreme}
use Rattle.row_spans.specs.Spans.{end_at, ends_at}
use Rattle.kept_sums.specs.CommonSums.{IsCommonSum}
use Rattle.kept_sums.specs.declared.common.CommonSum.{CommonSum}

pub ends_at-++ : (extreme : Extreme) (a b : List Span) → ends_at extreme (a ++ b) ≡ ends_at extreme a ++ ends_at extreme b
ends_at-++ extreme [] b = refl
ends_at-++ extreme (s ∷ a) b = ap (λ (es : List (Option Number)). end_at extreme s ∷ es) (ends_at-++ extreme a b)

nil-right : (es : List (Option Number)) → es ++ [] ≡ es
nil-right [] = refl
nil-right (e ∷ es) = ap (λ (t : List (Option Number)). e ∷ t) (nil-right es)

-- a term more at the end
pub last_more : (es : List (Option Number)) (e : Option Number) (s t : CommonSum) → ((a b : List (Option Number)) → IsCommonSum (a ++ b) s → IsCommonSum (a ++ e ∷ b) t) → IsCommonSum es s → IsCommonSum (es ++ e ∷ []) t
last_more es e s t f h = f es [] (subst (λ (x : List (Option Number)). IsCommonSum x s) (sym (nil-right es)) h)
