-- What is kept of a row: the sums of both of its activities, each over one denominator, and how many of its columns have crossed bounds.
use Rattle.std.specs.Prelude.{◌≡◌, ℕ, ◌+◌, List, [], ◌∷◌, if◌then◌else◌}
use Rattle.lp_model.specs.EndTests.{is_in_order}
use Rattle.row_spans.specs.declared.span.Span.{Span}
use Rattle.row_spans.specs.declared.span.Extreme.TheVariants.{Least, Greatest}
use Rattle.row_spans.specs.Spans.{ends_at}
use Rattle.kept_sums.specs.CommonSums.{HasRoom, IsCommonSum}
use Rattle.kept_sums.specs.declared.kept.KeptSums.{KeptSums}

-- 1 where the bounds of an entry's column are crossed, else 0
abbrev pub crossed_in : Span → ℕ
crossed_in s = if is_in_order s.lower s.upper then 0 else 1

-- how many entries are at columns with crossed bounds
abbrev pub crossed_count : List Span → ℕ
crossed_count [] = 0
crossed_count (s ∷ ss) = crossed_in s + crossed_count ss

-- they are those of the row's entries within the bounds of their columns
pub record AreSumsOf (ss : List Span) (k : KeptSums) : Type 0 where
  pub least : IsCommonSum (ends_at Least ss) k.least
  pub greatest : IsCommonSum (ends_at Greatest ss) k.greatest
  pub crossed : k.crossed ≡ crossed_count ss

-- both denominators can stand below numbers
pub record HaveRoom (k : KeptSums) : Type 0 where
  pub least : HasRoom k.least
  pub greatest : HasRoom k.greatest
