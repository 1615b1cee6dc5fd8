-- The least and the greatest activity of a row as they are made: a sum starts at 0 and adds the terms by ascending id; it is past where
-- a term or a step is. Where a term is infinite the activity is infinite, no sum is made, and it is never past.
use Rattle.std.specs.Prelude.{ℕ, Bool, true, false, Option, Some, None, List, [], ◌∷◌, Result, Ok, Err, if◌then◌else◌}
use Rattle.fractions.specs.Number.{Number, zero_ℚ}
use Rattle.fractions.specs.declared.Past.{Past}
use Rattle.row_spans.specs.declared.span.Span.{Span}
use Rattle.row_spans.specs.declared.span.Extreme.{Extreme}
use Rattle.row_spans.specs.Exact.{fits, exact_sum, if_room, as_end}
use Rattle.row_spans.specs.Spans.{ends_at, others}

abbrev pub all_finite : List (Option Number) → Bool
all_finite [] = true
all_finite (None ∷ es) = false
all_finite (Some q ∷ es) = all_finite es

-- f of a sum that is not past
abbrev pub continued : {T : Type 0} → Result Number Past → (Number → Result T Past) → Result T Past
continued (Ok s) f = f s
continued (Err e) f = Err e

-- a sum with one term more; a term that is infinite adds nothing
abbrev pub plus_end : Number → Option Number → Result Number Past
plus_end s None = Ok s
plus_end s (Some q) = continued (if_room (fits q) q) (exact_sum s)

-- the sum from s on, term by term
abbrev pub sum_from : Number → List (Option Number) → Result Number Past
sum_from s [] = Ok s
sum_from s (e ∷ es) = continued (plus_end s e) (λ t. sum_from t es)

abbrev pub row_sum : List (Option Number) → Result (Option Number) Past
row_sum es = if all_finite es then as_end (sum_from zero_ℚ es) else Ok None

-- the least, or the greatest, activity of a row
abbrev pub activity : Extreme → List Span → Result (Option Number) Past
activity extreme ss = row_sum (ends_at extreme ss)

-- the same with column j left out
abbrev pub rest : Extreme → ℕ → List Span → Result (Option Number) Past
rest extreme j ss = activity extreme (others j ss)
