-- The numbers of faults.
use Rattle.std.specs.Prelude.{ℕ}
use Rattle.mps_profile.specs.declared.faults.MpsFaultKind.{MpsFaultKind}
use Rattle.mps_profile.specs.declared.faults.MpsFaultKind.TheVariants.{BadColumn, FieldCount, UnknownSection, RefusedSection, SectionOrder, NoEnd, BadNumber, NumberPast, UnknownRow, UnknownColumn, DuplicateName, DuplicateEntry, SplitColumn, BadBoundType, BadMarker, NoObjective, TooLong, BadRowType, RangeOnFree}

abbrev pub number_of_kind : MpsFaultKind → ℕ
number_of_kind BadColumn = 1
number_of_kind FieldCount = 2
number_of_kind UnknownSection = 3
number_of_kind RefusedSection = 4
number_of_kind SectionOrder = 5
number_of_kind NoEnd = 6
number_of_kind BadNumber = 7
number_of_kind NumberPast = 8
number_of_kind UnknownRow = 9
number_of_kind UnknownColumn = 10
number_of_kind DuplicateName = 11
number_of_kind DuplicateEntry = 12
number_of_kind SplitColumn = 13
number_of_kind BadBoundType = 14
number_of_kind BadMarker = 15
number_of_kind NoObjective = 16
number_of_kind TooLong = 17
number_of_kind BadRowType = 18
number_of_kind RangeOnFree = 19
