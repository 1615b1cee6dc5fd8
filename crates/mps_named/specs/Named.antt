-- What the cards say of rows and columns by their names alone. The nearest card stands first.
use Rattle.std.specs.Prelude.{◌≡◌, ℕ, ◌<◌, ◌&&◌, ◌||◌, Bool, false, List, [], ◌∷◌, length, Option, Some, None, unwrap_or, if◌then◌else◌}
use Rattle.std.specs.Str.{bytes_eq}
use Rattle.fractions.specs.Number.{Number, zero_ℚ}
use Rattle.mps_profile.specs.Texts.{Text, field}
use Rattle.mps_profile.specs.Cards.{Pair, Pairs, One, Two, Card, RowCard, ColumnCard, SideCard, RangeCard, ValuedCard, BareCard}
use Rattle.mps_profile.specs.Words.{kind_named}
use Rattle.mps_profile.specs.Numerals.{number_on}
use Rattle.mps_profile.specs.Sets.{counts, side_set, range_set, bound_set}
use Rattle.mps_profile.specs.Bounds.{bare_change}
use Rattle.mps_profile.specs.Rows.{row_names, row_kind, value_in, side_of, interval_in, range_of}
use Rattle.mps_profile.specs.Columns.{column_names, number_at, in_run, change_on, lower_in, upper_in, makes_whole, or_before, lower_of, upper_of, is_whole, is_semi, last_kind, makes_semi, semi_upper_in, semi_upper_of}
use Rattle.mps_profile.specs.declared.dialect.Dialect.{Dialect}
use Rattle.mps_profile.specs.declared.bounds.Change.{Change}
use Rattle.mps_profile.specs.declared.row_kinds.Interval.{Interval}
use Rattle.mps_profile.specs.declared.row_kinds.RowKind.{RowKind}
use Rattle.mps_profile.specs.declared.row_kinds.RowKind.TheVariants.{Free}

-- the type on the card of ROWS that names the row
abbrev pub row_kind_named : List Card → Text → RowKind
row_kind_named [] row = Free
row_kind_named (RowCard kind name ∷ before) row = if bytes_eq name row then unwrap_or (kind_named kind) Free else row_kind_named before row
row_kind_named (card ∷ before) row = row_kind_named before row

-- the number of the last of the pairs that names the row, or what stands before it
abbrev pub pair_named : Dialect → Text → Pair → Option Number → Option Number
pair_named dialect row pair before = if bytes_eq pair.row row then value_in (number_on dialect pair.number) else before

abbrev pub pairs_named : Dialect → Text → Pairs → Option Number → Option Number
pairs_named dialect row (One pair) before = pair_named dialect row pair before
pairs_named dialect row (Two pair other) before = pair_named dialect row other (pair_named dialect row pair before)

-- the number on the card of RHS that names the row, of those that count
abbrev pub side_named : Dialect → List Card → Text → Option Number
side_named dialect [] row = None
side_named dialect (SideCard set pairs ∷ before) row =
    if counts (side_set before) set then pairs_named dialect row pairs (side_named dialect before row) else side_named dialect before row
side_named dialect (card ∷ before) row = side_named dialect before row

-- the sides that a pair of RANGES gives the row that it names
abbrev pub interval_named : Dialect → List Card → Text → Pair → Option Interval
interval_named dialect cards row pair = interval_in (row_kind_named cards row) (unwrap_or (side_named dialect cards row) zero_ℚ) (number_on dialect pair.number)

abbrev pub pair_range_named : Dialect → List Card → Text → Pair → Option Interval → Option Interval
pair_range_named dialect cards row pair before = if bytes_eq pair.row row then interval_named dialect cards row pair else before

abbrev pub pairs_range_named : Dialect → List Card → Text → Pairs → Option Interval → Option Interval
pairs_range_named dialect cards row (One pair) before = pair_range_named dialect cards row pair before
pairs_range_named dialect cards row (Two pair other) before = pair_range_named dialect cards row other (pair_range_named dialect cards row pair before)

-- the sides by the card of RANGES that names the row, of those that count
abbrev pub range_named : Dialect → List Card → Text → Option Interval
range_named dialect [] row = None
range_named dialect (RangeCard set pairs ∷ before) row =
    if counts (range_set before) set then pairs_range_named dialect before row pairs (range_named dialect before row) else range_named dialect before row
range_named dialect (card ∷ before) row = range_named dialect before row

-- the number on the card of COLUMNS that names both
abbrev pub number_named : Dialect → List Card → Text → Text → Option Number
number_named dialect [] column row = None
number_named dialect (ColumnCard name pairs ∷ before) column row =
    if bytes_eq name column then pairs_named dialect row pairs (number_named dialect before column row) else number_named dialect before column row
number_named dialect (card ∷ before) column row = number_named dialect before column row

-- what a card of BOUNDS sets, where it counts and names the column
abbrev pub change_named : Dialect → Card → List Card → Text → Option Change
change_named dialect (ValuedCard set kind name number) before column = if counts (bound_set before) set && bytes_eq name column then change_on dialect kind number else None
change_named dialect (BareCard set kind name) before column = if counts (bound_set before) set && bytes_eq name column then Some (bare_change kind) else None
change_named dialect card before column = None

-- the bounds of the last card that sets them
abbrev pub lower_named : Dialect → List Card → Text → Option (Option Number)
lower_named dialect [] column = None
lower_named dialect (card ∷ before) column = or_before (lower_in (change_named dialect card before column)) (lower_named dialect before column)

abbrev pub upper_named : Dialect → List Card → Text → Option (Option Number)
upper_named dialect [] column = None
upper_named dialect (card ∷ before) column = or_before (upper_in (change_named dialect card before column)) (upper_named dialect before column)

-- whether a card of COLUMNS in a run names the column
abbrev pub named_in_run : Card → List Card → Text → Bool
named_in_run (ColumnCard name pairs) before column = in_run before && bytes_eq name column
named_in_run card before column = false

-- whether a card in a run names the column, or a card of BOUNDS makes it whole
abbrev pub whole_named : Dialect → List Card → Text → Bool
whole_named dialect [] column = false
whole_named dialect (card ∷ before) column = named_in_run card before column || makes_whole (change_named dialect card before column) || whole_named dialect before column

-- whether a card of BOUNDS makes the column semi-continuous
abbrev pub semi_named : Dialect → List Card → Text → Bool
semi_named dialect [] column = false
semi_named dialect (card ∷ before) column = makes_semi (change_named dialect card before column) || semi_named dialect before column

-- whether the last card that sets its upper bound is of type SC
abbrev pub semi_upper_named : Dialect → List Card → Text → Option Bool
semi_upper_named dialect [] column = None
semi_upper_named dialect (card ∷ before) column = last_kind (semi_upper_in (change_named dialect card before column)) (semi_upper_named dialect before column)

-- what the words by places say of row i the words by names say of its name
pub record RowIsNamed (dialect : Dialect) (cards : List Card) (i : ℕ) : Type 0 where
  pub kind : row_kind cards i ≡ row_kind_named cards (field (row_names cards) i)
  pub side : side_of dialect cards i ≡ side_named dialect cards (field (row_names cards) i)
  pub range : range_of dialect cards i ≡ range_named dialect cards (field (row_names cards) i)

-- and of column j, with each row
pub record ColumnIsNamed (dialect : Dialect) (cards : List Card) (j : ℕ) : Type 0 where
  pub lower : lower_of dialect cards j ≡ lower_named dialect cards (field (column_names cards) j)
  pub upper : upper_of dialect cards j ≡ upper_named dialect cards (field (column_names cards) j)
  pub whole : is_whole dialect cards j ≡ whole_named dialect cards (field (column_names cards) j)
  pub semi : is_semi dialect cards j ≡ semi_named dialect cards (field (column_names cards) j)
  pub semi_upper : semi_upper_of dialect cards j ≡ semi_upper_named dialect cards (field (column_names cards) j)
  pub numbers : (i : ℕ) → i < length (row_names cards) → number_at dialect cards j i ≡ number_named dialect cards (field (column_names cards) j) (field (row_names cards) i)
