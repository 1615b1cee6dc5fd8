-- The cards of the free format.
use Rattle.std.specs.Prelude.{◌==◌, ◌||◌, ◌&&◌, ◌+◌, nat_lt, ℕ, Bool, List, length, codes, Option, Some, None, Result, Ok, Err, if◌then◌else◌}
use Rattle.std.specs.Str.{bytes_eq}
use Rattle.mps_profile.specs.Texts.{Text, field}
use Rattle.mps_profile.specs.Cards.{Pair, Pairs, One, Two, Card, RowCard, MarkerCard, ColumnCard, SideCard, RangeCard, ValuedCard, BareCard, UnknownCard}
use Rattle.mps_profile.specs.Words.{type_named}
use Rattle.mps_profile.specs.declared.sections.Section.{Section}
use Rattle.mps_profile.specs.declared.sections.Section.TheVariants.{Rows, Columns, Rhs, Ranges, Bounds}
use Rattle.mps_profile.specs.declared.bounds.BoundType.{BoundType}
use Rattle.mps_profile.specs.declared.bounds.BoundType as types
use Rattle.mps_profile.specs.declared.faults.MpsFaultKind.{MpsFaultKind}
use Rattle.mps_profile.specs.declared.faults.MpsFaultKind.TheVariants.{FieldCount, SectionOrder}

-- the pair whose row stands at a place
abbrev pub pair_at : List Text → ℕ → Pair
pair_at fields k = record { row = field fields k; number = field fields (k + 1) }

-- two fields a pair
abbrev pub pairs_at : List Text → ℕ → Option Pairs
pairs_at fields k =
    if length fields == k + 2 then Some (One (pair_at fields k))
    else if length fields == k + 4 then Some (Two (pair_at fields k) (pair_at fields (k + 2)))
    else None

abbrev pub free_row : List Text → Result Card MpsFaultKind
free_row fields = if length fields == 2 then Ok (RowCard (field fields 0) (field fields 1)) else Err FieldCount

abbrev pub column_with : Text → Option Pairs → Result Card MpsFaultKind
column_with name None = Err FieldCount
column_with name (Some pairs) = Ok (ColumnCard name pairs)

abbrev pub is_marker : Text → Bool
is_marker word = bytes_eq word (codes "'MARKER'")

-- a marker card has three fields, of which the second says so
abbrev pub free_column : List Text → Result Card MpsFaultKind
free_column fields =
    if is_marker (field fields 1) then (if length fields == 3 then Ok (MarkerCard (field fields 2)) else Err FieldCount)
    else column_with (field fields 0) (pairs_at fields 1)

abbrev pub side_with : Option Text → Option Pairs → Result Card MpsFaultKind
side_with set None = Err FieldCount
side_with set (Some pairs) = Ok (SideCard set pairs)

abbrev pub range_with : Option Text → Option Pairs → Result Card MpsFaultKind
range_with set None = Err FieldCount
range_with set (Some pairs) = Ok (RangeCard set pairs)

-- the name of a set stands before the pairs where the number of fields is odd
abbrev pub has_set : List Text → Bool
has_set fields = (length fields == 3) || (length fields == 5)

abbrev pub free_side : List Text → Result Card MpsFaultKind
free_side fields = if has_set fields then side_with (Some (field fields 0)) (pairs_at fields 1) else side_with None (pairs_at fields 0)

abbrev pub free_range : List Text → Result Card MpsFaultKind
free_range fields = if has_set fields then range_with (Some (field fields 0)) (pairs_at fields 1) else range_with None (pairs_at fields 0)

-- a type without a value takes one field more, which is unread
abbrev pub bound_with : List Text → Option BoundType → Result Card MpsFaultKind
bound_with fields None = if nat_lt 1 (length fields) && nat_lt (length fields) 5 then Ok UnknownCard else Err FieldCount
bound_with fields (Some (types.TheVariants.Valued kind)) =
    if length fields == 3 then Ok (ValuedCard None kind (field fields 1) (field fields 2))
    else if length fields == 4 then Ok (ValuedCard (Some (field fields 1)) kind (field fields 2) (field fields 3))
    else Err FieldCount
bound_with fields (Some (types.TheVariants.Bare kind)) =
    if length fields == 2 then Ok (BareCard None kind (field fields 1))
    else if (length fields == 3) || (length fields == 4) then Ok (BareCard (Some (field fields 1)) kind (field fields 2))
    else Err FieldCount

abbrev pub free_bound : List Text → Result Card MpsFaultKind
free_bound fields = bound_with fields (type_named (field fields 0))

-- by the section; no card stands elsewhere
abbrev pub free_card : Option Section → List Text → Result Card MpsFaultKind
free_card (Some Rows) fields = free_row fields
free_card (Some Columns) fields = free_column fields
free_card (Some Rhs) fields = free_side fields
free_card (Some Ranges) fields = free_range fields
free_card (Some Bounds) fields = free_bound fields
free_card section fields = Err SectionOrder
