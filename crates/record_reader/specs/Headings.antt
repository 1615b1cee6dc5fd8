-- The lines that aren't labels or records.
use Rattle.std.specs.Prelude.{ℕ, ◌^◌, ◌-◌, Bool, true, false, not, ◌&&◌, List, length, take, drop, Option, Some, None, Result, Ok, Err, nat_lt, ◌==◌, codes, slice_index_or, if◌then◌else◌}
use Rattle.std.specs.Str.{bytes_eq}
use Rattle.fractions.specs.Number.{Number}
use Rattle.fractions.specs.declared.Numbers.TheVariants.{Fractions}
use Rattle.number_texts.specs.Form.{cut, is_slash, is_point, is_digits, number}
use Rattle.number_texts.specs.Read.{read_of}
use Rattle.number_texts.specs.Written.{written}
use Rattle.number_texts.specs.declared.reading.ReadNumber.{ReadNumber}
use Rattle.number_texts.specs.declared.reading.ReadNumber.TheVariants.{NotNumber, NumberPast}
use Rattle.lp_model.specs.declared.program.Sense.{Sense}
use Rattle.lp_model.specs.declared.program.Sense.TheVariants.{Min, Max}
use Rattle.record_fields.specs.Words.{is_plain}
use Rattle.record_fields.specs.Ratios.{unsigned_part, is_least}
use Rattle.record_fields.specs.declared.faults.LineFault.{LineFault}
use Rattle.record_values.specs.declared.version.TextVersion.{TextVersion}
use Rattle.record_values.specs.declared.version.TextVersion.TheVariants.{First, Second}
use Rattle.record_fields.specs.declared.faults.LineFault.TheVariants as faults

-- the version that a header names
abbrev pub version_of : List ℕ → Option TextVersion
version_of line =
    if bytes_eq line (codes "papilo-records 1") then Some First
    else if bytes_eq line (codes "papilo-records 2") then Some Second
    else None

abbrev pub sense_of : List ℕ → Option Sense
sense_of line = if bytes_eq line (codes "sense min") then Some Min else if bytes_eq line (codes "sense max") then Some Max else None

-- whether the records undo duals too
abbrev pub duals_of : List ℕ → Option Bool
duals_of line = if bytes_eq line (codes "duals no") then Some false else if bytes_eq line (codes "duals yes") then Some true else None

-- a heading with its space, and a number behind it; no text has as many lines as 2^64 - 1, which stands for what is more
abbrev pub counted : List ℕ → ℕ
counted digits = if nat_lt (number digits) (2 ^ 64) then number digits else 2 ^ 64 - 1

abbrev pub count_of : List ℕ → List ℕ → Option ℕ
count_of heading line =
    if bytes_eq (take (length heading) line) heading && is_plain (drop (length heading) line) then Some (counted (drop (length heading) line)) else None

-- decimals end with a digit that isn't 0
abbrev pub are_decimals : List ℕ → Bool
are_decimals ds = is_digits ds && not (slice_index_or ds (length ds - 1) 48 == 48)

abbrev pub point_form : List ℕ × Option (List ℕ) → Bool
point_form (n, None) = is_plain n
point_form (n, Some ds) = is_plain n && are_decimals ds

-- n/d with n of 1 or more and d of 2 or more; lowest terms are asked of numbers in range alone
abbrev pub slash_form : List ℕ × Option (List ℕ) → Bool
slash_form (n, None) = point_form (cut is_point n)
slash_form (n, Some d) = is_least 1 n && is_least 2 d

-- a number past the range has the form in which numbers are written
abbrev pub has_written_form : List ℕ → Bool
has_written_form w = slash_form (cut is_slash (unsigned_part w))

-- an offset is the written form of a number
abbrev pub offset_by : List ℕ → Result Number ReadNumber → Result Number LineFault
offset_by w (Ok q) = if bytes_eq w (written q) then Ok q else Err faults.BadLine
offset_by w (Err NotNumber) = Err faults.BadLine
offset_by w (Err NumberPast) = if has_written_form w then Err faults.NumberPast else Err faults.BadLine

abbrev pub offset_of : List ℕ → Result Number LineFault
offset_of line = if bytes_eq (take 7 line) (codes "offset ") then offset_by (drop 7 line) (read_of Fractions (drop 7 line)) else Err faults.BadLine

abbrev pub is_end : List ℕ → Bool
is_end line = bytes_eq line (codes "end")
