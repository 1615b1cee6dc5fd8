-- The cards of the fixed format.
use Rattle.std.specs.Prelude.{◌==◌, ◌||◌, not, Bool, length, Option, Some, None, Result, Ok, Err, if◌then◌else◌}
use Rattle.mps_profile.specs.Texts.{Text}
use Rattle.mps_profile.specs.Fields.{FixedFields, fixed_fields, has_misplaced}
use Rattle.mps_profile.specs.Cards.{Pairs, One, Two, Card, RowCard, MarkerCard, ValuedCard, BareCard, UnknownCard}
use Rattle.mps_profile.specs.FreeCards.{is_marker, column_with, side_with, range_with}
use Rattle.mps_profile.specs.Words.{type_named}
use Rattle.mps_profile.specs.declared.sections.Section.{Section}
use Rattle.mps_profile.specs.declared.sections.Section.TheVariants.{Rows, Columns, Rhs, Ranges, Bounds}
use Rattle.mps_profile.specs.declared.bounds.BoundType.{BoundType}
use Rattle.mps_profile.specs.declared.bounds.BoundType as types
use Rattle.mps_profile.specs.declared.faults.MpsFaultKind.{MpsFaultKind}
use Rattle.mps_profile.specs.declared.faults.MpsFaultKind.TheVariants.{BadColumn, FieldCount, SectionOrder}

abbrev pub is_empty : Text → Bool
is_empty text = length text == 0

abbrev pub has_tail : FixedFields → Bool
has_tail f = not (is_empty f.fifth) || not (is_empty f.sixth)

-- fields 1 and 2 alone
abbrev pub fixed_row : FixedFields → Result Card MpsFaultKind
fixed_row f =
    if is_empty f.first || is_empty f.second || not (is_empty f.third) || not (is_empty f.fourth) || has_tail f then Err FieldCount
    else Ok (RowCard f.first f.second)

-- fields 3 and 4, and perhaps 5 and 6
abbrev pub fixed_pairs : FixedFields → Option Pairs
fixed_pairs f =
    if not (is_empty f.first) || is_empty f.third || is_empty f.fourth then None
    else if not (has_tail f) then Some (One (record { row = f.third; number = f.fourth }))
    else if is_empty f.fifth || is_empty f.sixth then None
    else Some (Two (record { row = f.third; number = f.fourth }) (record { row = f.fifth; number = f.sixth }))

-- a marker card has fields 2, 3 and 5, of which the third says so
abbrev pub fixed_marker : FixedFields → Result Card MpsFaultKind
fixed_marker f =
    if not (is_empty f.first) || is_empty f.second || not (is_empty f.fourth) || is_empty f.fifth || not (is_empty f.sixth) then Err FieldCount
    else Ok (MarkerCard f.fifth)

abbrev pub fixed_column : FixedFields → Result Card MpsFaultKind
fixed_column f =
    if is_marker f.third then fixed_marker f
    else if is_empty f.second then Err FieldCount
    else column_with f.second (fixed_pairs f)

-- the name of a set may be left out
abbrev pub set_in : Text → Option Text
set_in text = if is_empty text then None else Some text

abbrev pub fixed_bound_with : FixedFields → Option BoundType → Result Card MpsFaultKind
fixed_bound_with f None = Ok UnknownCard
fixed_bound_with f (Some (types.TheVariants.Valued kind)) = if is_empty f.fourth then Err FieldCount else Ok (ValuedCard (set_in f.second) kind f.third f.fourth)
fixed_bound_with f (Some (types.TheVariants.Bare kind)) = Ok (BareCard (set_in f.second) kind f.third)

-- fields 1 and 3, perhaps 2, and 4 where the type has a value
abbrev pub fixed_bound : FixedFields → Result Card MpsFaultKind
fixed_bound f = if is_empty f.first || is_empty f.third || has_tail f then Err FieldCount else fixed_bound_with f (type_named f.first)

-- by the section; no card stands elsewhere
abbrev pub by_fields : Option Section → FixedFields → Result Card MpsFaultKind
by_fields (Some Rows) f = fixed_row f
by_fields (Some Columns) f = fixed_column f
by_fields (Some Rhs) f = side_with (set_in f.second) (fixed_pairs f)
by_fields (Some Ranges) f = range_with (set_in f.second) (fixed_pairs f)
by_fields (Some Bounds) f = fixed_bound f
by_fields section f = Err SectionOrder

abbrev pub fixed_card : Option Section → Text → Result Card MpsFaultKind
fixed_card section line = if has_misplaced line then Err BadColumn else by_fields section (fixed_fields line)
