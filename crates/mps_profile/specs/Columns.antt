-- What the cards say of columns. The nearest card stands first.
use Rattle.std.specs.Prelude.{ℕ, ◌==◌, ◌&&◌, ◌||◌, ◌++◌, Bool, true, false, List, [], ◌∷◌, length, Option, Some, None, Result, Ok, Err, codes, unwrap_or, is_some, if◌then◌else◌}
use Rattle.std.specs.Str.{bytes_eq}
use Rattle.fractions.specs.Number.{Number, zero_ℚ}
use Rattle.names.specs.Names.{place}
use Rattle.number_texts.specs.declared.reading.ReadNumber.{ReadNumber}
use Rattle.mps_profile.specs.Texts.{Text}
use Rattle.mps_profile.specs.Cards.{Card, MarkerCard, ColumnCard, ValuedCard, BareCard}
use Rattle.mps_profile.specs.Numerals.{limit_on}
use Rattle.mps_profile.specs.Bounds.{valued_change, bare_change}
use Rattle.mps_profile.specs.Sides.{default_lower}
use Rattle.mps_profile.specs.Sets.{counts, bound_set}
use Rattle.mps_profile.specs.Rows.{row_names, is_at, pairs_value}
use Rattle.mps_profile.specs.declared.dialect.Dialect.{Dialect}
use Rattle.mps_profile.specs.declared.bounds.Limit.{Limit}
use Rattle.mps_profile.specs.declared.bounds.Change.{Change}
use Rattle.mps_profile.specs.declared.bounds.Valued.{Valued}

-- a name joins the names where it is not among them
abbrev pub joined : Text → List Text → List Text
joined name names = if is_some (place name names) then names else names ++ name ∷ []

-- the columns, in the order in which they are first named
abbrev pub column_names : List Card → List Text
column_names [] = []
column_names (ColumnCard name pairs ∷ before) = joined name (column_names before)
column_names (card ∷ before) = column_names before

-- the place of a column; a new one gets the next place
abbrev pub column_place : Text → List Text → ℕ
column_place name names = unwrap_or (place name names) (length names)

-- the number at column j and row i: that on the card of COLUMNS that names both
abbrev pub number_at : Dialect → List Card → ℕ → ℕ → Option Number
number_at dialect [] j i = None
number_at dialect (ColumnCard name pairs ∷ before) j i =
    if column_place name (column_names before) == j then pairs_value dialect (row_names before) i pairs (number_at dialect before j i)
    else number_at dialect before j i
number_at dialect (card ∷ before) j i = number_at dialect before j i

-- 0 where no card names both
abbrev pub coefficient : Dialect → List Card → ℕ → ℕ → Number
coefficient dialect cards j i = unwrap_or (number_at dialect cards j i) zero_ℚ

-- the column whose cards are going on: that of the nearest card of COLUMNS, none after a marker
abbrev pub open_column : List Card → Option ℕ
open_column [] = None
open_column (ColumnCard name pairs ∷ before) = Some (column_place name (column_names before))
open_column (MarkerCard word ∷ before) = None
open_column (card ∷ before) = open_column before

abbrev pub is_start : Text → Bool
is_start word = bytes_eq word (codes "'INTORG'")

-- whether a run of whole columns is open
abbrev pub in_run : List Card → Bool
in_run [] = false
in_run (MarkerCard word ∷ before) = is_start word
in_run (card ∷ before) = in_run before

-- what a card of BOUNDS with a value sets
abbrev pub change_in : Valued → Result Limit ReadNumber → Option Change
change_in kind (Ok limit) = valued_change kind limit
change_in kind (Err fault) = None

abbrev pub change_on : Dialect → Valued → Text → Option Change
change_on dialect kind number = change_in kind (limit_on dialect number)

-- what a card of BOUNDS sets of column j, where it counts and names the column
abbrev pub change_at : Dialect → Card → List Card → ℕ → Option Change
change_at dialect (ValuedCard set kind column number) before j =
    if counts (bound_set before) set && is_at (place column (column_names before)) j then change_on dialect kind number else None
change_at dialect (BareCard set kind column) before j =
    if counts (bound_set before) set && is_at (place column (column_names before)) j then Some (bare_change kind) else None
change_at dialect card before j = None

abbrev pub lower_in : Option Change → Option (Option Number)
lower_in None = None
lower_in (Some change) = change.lower

abbrev pub upper_in : Option Change → Option (Option Number)
upper_in None = None
upper_in (Some change) = change.upper

abbrev pub makes_whole : Option Change → Bool
makes_whole None = false
makes_whole (Some change) = change.whole

-- an end that a card sets, or the one before
abbrev pub or_before : Option (Option Number) → Option (Option Number) → Option (Option Number)
or_before None before = before
or_before (Some end) before = Some end

-- the bounds of column j: those of the last card that sets them
abbrev pub lower_of : Dialect → List Card → ℕ → Option (Option Number)
lower_of dialect [] j = None
lower_of dialect (card ∷ before) j = or_before (lower_in (change_at dialect card before j)) (lower_of dialect before j)

abbrev pub upper_of : Dialect → List Card → ℕ → Option (Option Number)
upper_of dialect [] j = None
upper_of dialect (card ∷ before) j = or_before (upper_in (change_at dialect card before j)) (upper_of dialect before j)

abbrev pub makes_semi : Option Change → Bool
makes_semi None = false
makes_semi (Some change) = change.semi

-- where a card sets the upper bound, whether it is of type SC
abbrev pub semi_upper_in : Option Change → Option Bool
semi_upper_in None = None
semi_upper_in (Some change) = if is_some change.upper then Some change.semi else None

abbrev pub last_kind : Option Bool → Option Bool → Option Bool
last_kind None before = before
last_kind (Some semi) before = Some semi

-- whether the last card that sets the upper bound of column j is of type SC
abbrev pub semi_upper_of : Dialect → List Card → ℕ → Option Bool
semi_upper_of dialect [] j = None
semi_upper_of dialect (card ∷ before) j = last_kind (semi_upper_in (change_at dialect card before j)) (semi_upper_of dialect before j)

-- the lower bound that no card sets, by the upper bound; under one that SC sets it is 0
abbrev pub lower_under : Bool → Option Number → Option Number
lower_under true upper = Some zero_ℚ
lower_under false upper = default_lower upper

-- without a card the upper bound is infinite, and the lower one 0, or infinite under a negative upper one that SC does not set
abbrev pub upper_bound : Dialect → List Card → ℕ → Option Number
upper_bound dialect cards j = unwrap_or (upper_of dialect cards j) None

abbrev pub lower_bound : Dialect → List Card → ℕ → Option Number
lower_bound dialect cards j = unwrap_or (lower_of dialect cards j) (lower_under (unwrap_or (semi_upper_of dialect cards j) false) (upper_bound dialect cards j))

-- whether a card of COLUMNS in a run names column j
abbrev pub stands_in_run : Card → List Card → ℕ → Bool
stands_in_run (ColumnCard name pairs) before j = in_run before && column_place name (column_names before) == j
stands_in_run card before j = false

-- whether column j is whole: it stands in a run, or a card of BOUNDS says so
abbrev pub is_whole : Dialect → List Card → ℕ → Bool
is_whole dialect [] j = false
is_whole dialect (card ∷ before) j = stands_in_run card before j || makes_whole (change_at dialect card before j) || is_whole dialect before j

-- whether column j is semi-continuous: a card of BOUNDS says so
abbrev pub is_semi : Dialect → List Card → ℕ → Bool
is_semi dialect [] j = false
is_semi dialect (card ∷ before) j = makes_semi (change_at dialect card before j) || is_semi dialect before j
