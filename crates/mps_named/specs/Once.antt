-- The pairs that name a row, or a column and a row. The nearest stands first.
use Rattle.std.specs.Prelude.{◌++◌, List, [], ◌∷◌, Option, None, if◌then◌else◌}
use Rattle.std.specs.Str.{bytes_eq}
use Rattle.fractions.specs.Number.{Number}
use Rattle.mps_profile.specs.Texts.{Text}
use Rattle.mps_profile.specs.Cards.{Pair, Pairs, One, Two, Card, ColumnCard, SideCard, RangeCard}
use Rattle.mps_profile.specs.Numerals.{number_on}
use Rattle.mps_profile.specs.Sets.{counts, side_set, range_set}
use Rattle.mps_profile.specs.Rows.{value_in}
use Rattle.mps_profile.specs.declared.dialect.Dialect.{Dialect}

-- the pair, where it names the row
abbrev pub pair_naming : Text → Pair → List Pair
pair_naming row pair = if bytes_eq pair.row row then pair ∷ [] else []

abbrev pub pairs_naming : Text → Pairs → List Pair
pairs_naming row (One pair) = pair_naming row pair
pairs_naming row (Two pair other) = pair_naming row other ++ pair_naming row pair

-- the pairs of COLUMNS that name both
abbrev pub entries_naming : List Card → Text → Text → List Pair
entries_naming [] column row = []
entries_naming (ColumnCard name pairs ∷ before) column row = (if bytes_eq name column then pairs_naming row pairs else []) ++ entries_naming before column row
entries_naming (card ∷ before) column row = entries_naming before column row

-- the pairs of RHS that name the row, on cards that count
abbrev pub sides_naming : List Card → Text → List Pair
sides_naming [] row = []
sides_naming (SideCard set pairs ∷ before) row = (if counts (side_set before) set then pairs_naming row pairs else []) ++ sides_naming before row
sides_naming (card ∷ before) row = sides_naming before row

-- the pairs of RANGES that name the row, on cards that count
abbrev pub ranges_naming : List Card → Text → List Pair
ranges_naming [] row = []
ranges_naming (RangeCard set pairs ∷ before) row = (if counts (range_set before) set then pairs_naming row pairs else []) ++ ranges_naming before row
ranges_naming (card ∷ before) row = ranges_naming before row

-- the number of the first of some pairs
abbrev pub first_number : Dialect → List Pair → Option Number
first_number dialect [] = None
first_number dialect (pair ∷ more) = value_in (number_on dialect pair.number)
