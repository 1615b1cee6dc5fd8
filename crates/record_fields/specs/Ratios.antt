-- Numbers in records: whole, or n/d in lowest terms.
use Rattle.std.specs.Prelude.{ℕ, ◌^◌, Bool, not, ◌&&◌, List, drop, Option, Some, None, Result, Ok, Err, nat_lt, ◌==◌, if◌then◌else◌}
use Rattle.fractions.specs.Gcd.{gcd}
use Rattle.fractions.specs.Number.{Number, zero_ℚ, one_ℚ}
use Rattle.fractions.specs.Compare.{eq_ℚ}
use Rattle.fractions.specs.Lowest.{ratio}
use Rattle.number_texts.specs.Form.{cut, is_slash, is_minus, number}
use Rattle.number_texts.specs.Read.{signed}
use Rattle.number_texts.specs.declared.reading.ReadNumber.{ReadNumber}
use Rattle.number_texts.specs.declared.reading.ReadNumber.TheVariants.{NotNumber, NumberPast}
use Rattle.record_fields.specs.Words.{is_plain}
use Rattle.record_fields.specs.declared.faults.LineFault.{LineFault}
use Rattle.record_fields.specs.declared.faults.LineFault.TheVariants as faults

-- digits of a number of at least k
abbrev pub is_least : ℕ → List ℕ → Bool
is_least k ds = is_plain ds && not (nat_lt (number ds) k)

-- a natural number of at least k
abbrev pub natural_read : ℕ → List ℕ → Result ℕ ReadNumber
natural_read k ds = if is_least k ds then (if nat_lt (number ds) (2 ^ 127) then Ok (number ds) else Err NumberPast) else Err NotNumber

abbrev pub whole_by : Bool → Result ℕ ReadNumber → Result Number ReadNumber
whole_by negative (Ok n) = Ok (ratio (signed negative n) 1)
whole_by negative (Err why) = Err why

-- lowest terms are asked where both numbers are in range; else one past it makes the quotient past, if the other has its form
abbrev pub quotient_by : Bool → Result ℕ ReadNumber → Result ℕ ReadNumber → Result Number ReadNumber
quotient_by negative (Ok n) (Ok d) = if gcd n d == 1 then Ok (ratio (signed negative n) d) else Err NotNumber
quotient_by negative (Ok n) (Err why) = Err why
quotient_by negative (Err NotNumber) d = Err NotNumber
quotient_by negative (Err NumberPast) (Ok d) = Err NumberPast
quotient_by negative (Err NumberPast) (Err why) = Err why

-- there is no -0
abbrev pub least_size : Bool → ℕ
least_size negative = if negative then 1 else 0

-- whole, or n/d with d of 2 or more
abbrev pub parts_read : Bool → List ℕ × Option (List ℕ) → Result Number ReadNumber
parts_read negative (n, None) = whole_by negative (natural_read (least_size negative) n)
parts_read negative (n, Some d) = quotient_by negative (natural_read 1 n) (natural_read 2 d)

-- what stands behind a minus
abbrev pub unsigned_part : List ℕ → List ℕ
unsigned_part w = if is_minus w then drop 1 w else w

-- the number that a word is
unfoldable pub ratio_read : List ℕ → Result Number ReadNumber
ratio_read w = parts_read (is_minus w) (cut is_slash (unsigned_part w))

-- 1 stands for what is no number in range
abbrev pub number_in : Result Number ReadNumber → Number
number_in (Ok q) = q
number_in (Err why) = one_ℚ

abbrev pub ratio_of : List ℕ → Number
ratio_of w = number_in (ratio_read w)

abbrev pub number_fault : Result Number ReadNumber → Option LineFault
number_fault (Ok q) = None
number_fault (Err NotNumber) = Some faults.BadLine
number_fault (Err NumberPast) = Some faults.NumberPast

-- an entry isn't 0
abbrev pub entry_fault : Result Number ReadNumber → Option LineFault
entry_fault (Ok q) = if eq_ℚ q zero_ℚ then Some faults.BadLine else None
entry_fault (Err why) = number_fault (Err why)
