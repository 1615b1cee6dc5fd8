-- What is kept of a row.
use Rattle.std.specs.Prelude.{◌≡◌, Option, List, Ok}
use Rattle.fractions.specs.Number.{Number, zero_ℚ}
use Rattle.row_spans.specs.declared.span.Span.{Span}
use Rattle.row_spans.specs.declared.span.Extreme.TheVariants.{Least, Greatest}
use Rattle.activities.specs.declared.row_sums.Kept.{Kept}
use Rattle.activities.specs.declared.row_sums.Kept.TheVariants.{Common, Before}
use Rattle.kept_sums.specs.CommonSums.{IsCommonSum}
use Rattle.activities.specs.Prefixes.{sums_before}
use Rattle.row_spans.specs.Spans.{ends_at, AreSpans}

-- the sum of terms over one denominator, or the sums before each of them
abbrev pub IsKept : List (Option Number) → Kept → Type 0
IsKept es (Common s) = IsCommonSum es s
IsKept es (Before sums) = sums.items ≡ sums_before (Ok zero_ℚ) es

pub record AreRowSums (ss : List Span) (least greatest : Kept) : Type 0 where
  pub spans : AreSpans 0 ss
  pub of_least : IsKept (ends_at Least ss) least
  pub of_greatest : IsKept (ends_at Greatest ss) greatest
