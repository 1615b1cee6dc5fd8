-- Numbers on cards.
use Rattle.std.specs.Prelude.{ℕ, pos, ◌^◌, ◌||◌, nat_le, ◌&&◌, ◌+◌, Bool, true, false, map, codes, Option, Some, None, Result, Ok, Err, if◌then◌else◌}
use Rattle.std.specs.List.{list_any}
use Rattle.std.specs.Str.{bytes_eq}
use Rattle.fractions.specs.Number.{Number, of_ℤ, neg_ℚ}
use Rattle.fractions.specs.Compare.{le_ℚ}
use Rattle.fractions.specs.declared.Numbers.{Numbers}
use Rattle.fractions.specs.Scaled.{scaled}
use Rattle.number_texts.specs.Form.{Terms, terms_of, number, up_of, down_of, unsigned, is_minus, is_slash}
use Rattle.number_texts.specs.Read.{read_of}
use Rattle.number_texts.specs.declared.reading.ReadNumber.{ReadNumber}
use Rattle.number_texts.specs.declared.reading.ReadNumber.TheVariants.{NotNumber, NumberPast}
use Rattle.mps_profile.specs.Texts.{Text}
use Rattle.mps_profile.specs.declared.dialect.Format.{Format}
use Rattle.mps_profile.specs.declared.dialect.Format.TheVariants.{Free, Fixed}
use Rattle.mps_profile.specs.declared.dialect.Dialect.{Dialect}
use Rattle.mps_profile.specs.declared.bounds.Limit.{Limit}
use Rattle.mps_profile.specs.declared.bounds.Limit.TheVariants.{Below, At, Above}

-- in the fixed format no number has a slash
abbrev pub number_in : Format → Numbers → Text → Result Number ReadNumber
number_in Free numbers text = read_of numbers text
number_in Fixed numbers text = if list_any is_slash text then Err NotNumber else read_of numbers text

-- the number that a field means
abbrev pub number_on : Dialect → Text → Result Number ReadNumber
number_on dialect text = number_in dialect.format dialect.numbers text

-- from 10^20 on a bound is infinite
abbrev pub is_far : Number → Bool
is_far q = le_ℚ (of_ℤ (pos (10 ^ 20))) q || le_ℚ q (neg_ℚ (of_ℤ (pos (10 ^ 20))))

abbrev pub infinity : Bool → Limit
infinity true = Below
infinity false = Above

abbrev pub limit_at : Number → Bool → Limit
limit_at q negative = if is_far q then infinity negative else At q

-- whether digits with a point and an exponent mean 10^20 or more, of any size
abbrev pub is_far_form : Option Terms → Bool
is_far_form None = false
is_far_form (Some s) = is_far (scaled (pos (number s.digits)) (up_of s) (down_of s))

-- a number past the range may still be an infinite bound
abbrev pub limit_by : Result Number ReadNumber → Bool → Bool → Result Limit ReadNumber
limit_by (Ok q) negative far = Ok (limit_at q negative)
limit_by (Err NumberPast) negative far = if far then Ok (infinity negative) else Err NumberPast
limit_by (Err NotNumber) negative far = Err NotNumber

-- a capital letter as a small one
abbrev pub lowered : ℕ → ℕ
lowered b = if nat_le 65 b && nat_le b 90 then b + 32 else b

abbrev pub is_infinity : Text → Bool
is_infinity text = bytes_eq (map lowered text) (codes "inf") || bytes_eq (map lowered text) (codes "infinity")

-- the number that a field of BOUNDS means
abbrev pub limit_on : Dialect → Text → Result Limit ReadNumber
limit_on dialect text =
    if is_infinity (unsigned text) then Ok (infinity (is_minus text))
    else limit_by (number_on dialect text) (is_minus text) (is_far_form (terms_of (unsigned text)))
