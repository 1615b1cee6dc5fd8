-- Sums of the terms before each term, as they are made.
use Rattle.std.specs.Prelude.{Option, List, [], ◌∷◌, Result}
use Rattle.fractions.specs.Number.{Number}
use Rattle.fractions.specs.declared.Past.{Past}
use Rattle.row_spans.specs.RowSums.{continued, plus_end}

-- a sum, that may be past, with one term more
abbrev pub with_end : Result Number Past → Option Number → Result Number Past
with_end r e = continued r (λ s. plus_end s e)

-- the sums before each of the terms, where r stands before the first
abbrev pub sums_before : Result Number Past → List (Option Number) → List (Result Number Past)
sums_before r [] = []
sums_before r (e ∷ es) = r ∷ sums_before (with_end r e) es
