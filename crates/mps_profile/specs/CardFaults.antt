-- The faults of cards, each by the cards before it, of which the nearest stands first.
use Rattle.std.specs.Prelude.{ℕ, ◌==◌, ◌&&◌, ◌||◌, not, Bool, true, false, List, [], ◌∷◌, Option, Some, None, Result, Ok, Err, codes, is_some, is_none, if◌then◌else◌}
use Rattle.std.specs.Str.{bytes_eq}
use Rattle.fractions.specs.Number.{Number}
use Rattle.names.specs.Names.{place}
use Rattle.number_texts.specs.declared.reading.ReadNumber.{ReadNumber}
use Rattle.number_texts.specs.declared.reading.ReadNumber.TheVariants.{NotNumber, NumberPast}
use Rattle.mps_profile.specs.Texts.{Text}
use Rattle.mps_profile.specs.Cards.{Pair, Pairs, One, Two, either, Card, RowCard, MarkerCard, ColumnCard, SideCard, RangeCard, ValuedCard, BareCard, UnknownCard}
use Rattle.mps_profile.specs.Words.{kind_named}
use Rattle.mps_profile.specs.Numerals.{number_on, limit_on}
use Rattle.mps_profile.specs.Bounds.{valued_change}
use Rattle.mps_profile.specs.Sets.{counts, side_set, range_set, bound_set}
use Rattle.mps_profile.specs.Sides.{is_past_range}
use Rattle.mps_profile.specs.Rows.{row_names, row_kind, is_free, side_of, right_side, range_of}
use Rattle.mps_profile.specs.Columns.{column_names, number_at, open_column, in_run, is_start}
use Rattle.mps_profile.specs.declared.dialect.Dialect.{Dialect}
use Rattle.mps_profile.specs.declared.bounds.Limit.{Limit}
use Rattle.mps_profile.specs.declared.bounds.Valued.{Valued}
use Rattle.mps_profile.specs.declared.faults.MpsFaultKind.{MpsFaultKind}
use Rattle.mps_profile.specs.declared.faults.MpsFaultKind.TheVariants.{BadNumber, UnknownRow, UnknownColumn, DuplicateName, DuplicateEntry, SplitColumn, BadBoundType, BadMarker, BadRowType, RangeOnFree}
use Rattle.mps_profile.specs.declared.faults.MpsFaultKind as faults

abbrev pub is_bad : {T : Type 0} → Result T ReadNumber → Bool
is_bad (Ok q) = false
is_bad (Err NotNumber) = true
is_bad (Err NumberPast) = false

abbrev pub is_past : {T : Type 0} → Result T ReadNumber → Bool
is_past (Ok q) = false
is_past (Err NotNumber) = false
is_past (Err NumberPast) = true

abbrev pub bad_pair : Dialect → Pair → Bool
bad_pair dialect pair = is_bad (number_on dialect pair.number)

abbrev pub past_pair : Dialect → Pair → Bool
past_pair dialect pair = is_past (number_on dialect pair.number)

-- a limit that is no number, or an infinity that the type does not take
abbrev pub bad_limit : Valued → Result Limit ReadNumber → Bool
bad_limit kind (Ok limit) = is_none (valued_change kind limit)
bad_limit kind (Err NotNumber) = true
bad_limit kind (Err NumberPast) = false

abbrev pub has_bad_number : Dialect → List Card → Card → Bool
has_bad_number dialect before (ColumnCard name pairs) = either (bad_pair dialect) pairs
has_bad_number dialect before (SideCard set pairs) = counts (side_set before) set && either (bad_pair dialect) pairs
has_bad_number dialect before (RangeCard set pairs) = counts (range_set before) set && either (bad_pair dialect) pairs
has_bad_number dialect before (ValuedCard set kind column number) = counts (bound_set before) set && bad_limit kind (limit_on dialect number)
has_bad_number dialect before card = false

-- a range makes a side that is past, unless the row has a range or is an N row
abbrev pub past_side : Dialect → List Card → Option ℕ → Result Number ReadNumber → Bool
past_side dialect before (Some i) (Ok q) =
    is_none (range_of dialect before i) && is_past_range dialect.numbers (row_kind before i) (right_side dialect before i) q
past_side dialect before place number = false

-- the number on a pair of RANGES makes a side that is past
abbrev pub makes_past : Dialect → List Card → Pair → Bool
makes_past dialect before pair = past_side dialect before (place pair.row (row_names before)) (number_on dialect pair.number)

abbrev pub past_range : Dialect → List Card → Pair → Bool
past_range dialect before pair = past_pair dialect pair || makes_past dialect before pair

-- a number is past, or a side; where both pairs name one row, the second one makes no side
abbrev pub past_ranges : Dialect → List Card → Pairs → Bool
past_ranges dialect before (One pair) = past_range dialect before pair
past_ranges dialect before (Two pair other) =
    past_range dialect before pair || past_pair dialect other || (not (bytes_eq pair.row other.row) && makes_past dialect before other)

abbrev pub has_past_number : Dialect → List Card → Card → Bool
has_past_number dialect before (ColumnCard name pairs) = either (past_pair dialect) pairs
has_past_number dialect before (SideCard set pairs) = counts (side_set before) set && either (past_pair dialect) pairs
has_past_number dialect before (RangeCard set pairs) = counts (range_set before) set && past_ranges dialect before pairs
has_past_number dialect before (ValuedCard set kind column number) = counts (bound_set before) set && is_past (limit_on dialect number)
has_past_number dialect before card = false

abbrev pub is_new_row : List Card → Pair → Bool
is_new_row before pair = is_none (place pair.row (row_names before))

abbrev pub names_unknown_row : List Card → Card → Bool
names_unknown_row before (ColumnCard name pairs) = either (is_new_row before) pairs
names_unknown_row before (SideCard set pairs) = counts (side_set before) set && either (is_new_row before) pairs
names_unknown_row before (RangeCard set pairs) = counts (range_set before) set && either (is_new_row before) pairs
names_unknown_row before card = false

abbrev pub names_unknown_column : List Card → Card → Bool
names_unknown_column before (ValuedCard set kind column number) = counts (bound_set before) set && is_none (place column (column_names before))
names_unknown_column before (BareCard set kind column) = counts (bound_set before) set && is_none (place column (column_names before))
names_unknown_column before card = false

abbrev pub names_row_again : List Card → Card → Bool
names_row_again before (RowCard kind name) = is_some (place name (row_names before))
names_row_again before card = false

-- both pairs name the same row
abbrev pub is_doubled : Pairs → Bool
is_doubled (One pair) = false
is_doubled (Two pair other) = bytes_eq pair.row other.row

-- something holds at a place, where there is one
abbrev pub at_place : (ℕ → Bool) → Option ℕ → Bool
at_place test None = false
at_place test (Some k) = test k

-- an earlier card names both the column and the row
abbrev pub has_number : Dialect → List Card → Text → Pair → Bool
has_number dialect before name pair =
    at_place (λ j. at_place (λ i. is_some (number_at dialect before j i)) (place pair.row (row_names before))) (place name (column_names before))

abbrev pub has_side : Dialect → List Card → Pair → Bool
has_side dialect before pair = at_place (λ i. is_some (side_of dialect before i)) (place pair.row (row_names before))

abbrev pub has_range : Dialect → List Card → Pair → Bool
has_range dialect before pair = at_place (λ i. is_some (range_of dialect before i)) (place pair.row (row_names before))

abbrev pub names_entry_again : Dialect → List Card → Card → Bool
names_entry_again dialect before (ColumnCard name pairs) = either (has_number dialect before name) pairs || is_doubled pairs
names_entry_again dialect before (SideCard set pairs) = counts (side_set before) set && (either (has_side dialect before) pairs || is_doubled pairs)
names_entry_again dialect before (RangeCard set pairs) = counts (range_set before) set && (either (has_range dialect before) pairs || is_doubled pairs)
names_entry_again dialect before card = false

-- the column is known, and is not the one that is going on
abbrev pub is_split : Option ℕ → Option ℕ → Bool
is_split None going = false
is_split (Some j) None = true
is_split (Some j) (Some k) = not (k == j)

abbrev pub splits_column : List Card → Card → Bool
splits_column before (ColumnCard name pairs) = is_split (place name (column_names before)) (open_column before)
splits_column before card = false

abbrev pub has_unknown_type : Card → Bool
has_unknown_type UnknownCard = true
has_unknown_type card = false

-- a marker that starts a run where none is open, or ends an open one
abbrev pub fits_run : Bool → Text → Bool
fits_run run word = if is_start word then not run else (bytes_eq word (codes "'INTEND'") && run)

abbrev pub is_bad_marker : List Card → Card → Bool
is_bad_marker before (MarkerCard word) = not (fits_run (in_run before) word)
is_bad_marker before card = false

abbrev pub has_bad_row_type : Card → Bool
has_bad_row_type (RowCard kind name) = is_none (kind_named kind)
has_bad_row_type card = false

abbrev pub is_free_row : List Card → Pair → Bool
is_free_row before pair = at_place (λ i. is_free (row_kind before i)) (place pair.row (row_names before))

abbrev pub ranges_free_row : List Card → Card → Bool
ranges_free_row before (RangeCard set pairs) = counts (range_set before) set && either (is_free_row before) pairs
ranges_free_row before card = false

-- the first fault of a table whose test holds
abbrev pub first_of : List (Bool × MpsFaultKind) → Option MpsFaultKind
first_of [] = None
first_of ((holds, fault) ∷ more) = if holds then Some fault else first_of more

-- the fault of a card: the first of the table, which is in the order of the numbers
abbrev pub card_fault : Dialect → List Card → Card → Option MpsFaultKind
card_fault dialect before card = first_of (
    (has_bad_number dialect before card, BadNumber) ∷ (has_past_number dialect before card, faults.TheVariants.NumberPast)
    ∷ (names_unknown_row before card, UnknownRow) ∷ (names_unknown_column before card, UnknownColumn)
    ∷ (names_row_again before card, DuplicateName) ∷ (names_entry_again dialect before card, DuplicateEntry)
    ∷ (splits_column before card, SplitColumn) ∷ (has_unknown_type card, BadBoundType)
    ∷ (is_bad_marker before card, BadMarker) ∷ (has_bad_row_type card, BadRowType)
    ∷ (ranges_free_row before card, RangeOnFree) ∷ [])
