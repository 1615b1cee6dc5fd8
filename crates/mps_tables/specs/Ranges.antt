-- The sides that ranges give the rows of the tables.
use Rattle.std.specs.Prelude.{ℕ, Bool, Option, Some, None, Result, Ok, unwrap_or, is_some, if◌then◌else◌, slice_index_or}
use Rattle.fractions.specs.Number.{Number, zero_ℚ}
use Rattle.fractions.specs.declared.Past.{Past}
use Rattle.mps_profile.specs.declared.row_kinds.RowKind.TheVariants.{Free}
use Rattle.mps_profile.specs.declared.row_kinds.Interval.{Interval}
use Rattle.mps_numbers.specs.Ranges.{range_in}
use Rattle.mps_tables.specs.Slots.{held}
use Rattle.mps_tables.specs.declared.tables.Tables.{Tables}

-- the sides that the range r gives row i
abbrev pub range_at : Tables → ℕ → Number → Result (Option Interval) Past
range_at tables i r = range_in tables.dialect.numbers (slice_index_or tables.kinds.items i Free) (unwrap_or (held tables.sides i) zero_ℚ) r

-- those of a row that has none yet
abbrev pub new_range : Tables → Option ℕ → Number → Result (Option Interval) Past
new_range tables None r = Ok None
new_range tables (Some i) r = if is_some (held tables.ranges i) then Ok None else range_at tables i r

-- those of the second row on a card, which has none where it is the first one again
abbrev pub other_range : Tables → Bool → Option ℕ → Number → Result (Option Interval) Past
other_range tables same row r = if same then Ok None else new_range tables row r
