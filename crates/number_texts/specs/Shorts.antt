-- Numbers of few digits, read in one pass.
use Rattle.std.specs.Prelude.{◌≡◌, ℕ, ◌+◌, ◌-◌, ◌*◌, Bool, List, [], ◌∷◌, ◌++◌, length, if◌then◌else◌}
use Rattle.std.specs.Char.{is_ascii_digit}
use Rattle.number_texts.specs.declared.short.Short.{Short}
use Rattle.number_texts.specs.Form.{Terms, number}
use Rattle.number_texts.specs.Grammar.{IsMantissa, IsExponent, IsDecimalForm}

-- the number that the digits at the front make of a number before them, and what stands behind them
abbrev pub leading : ℕ → List ℕ → ℕ × List ℕ
leading n [] = (n, [])
leading n (c ∷ cs) = if is_ascii_digit c then leading (n * 10 + (c - 48)) cs else (n, c ∷ cs)

-- digits with at most one point at the front of a text, as one number, how many are behind the point, and what stands behind them
pub record IsShortMantissa (text : List ℕ) (size places : ℕ) (behind : List ℕ) : Type 0 where
  pub whole : List ℕ
  pub decimals : List ℕ
  pub mantissa : List ℕ
  pub form : IsMantissa mantissa whole decimals
  pub parts : text ≡ mantissa ++ behind
  pub size_is : number (whole ++ decimals) ≡ size
  pub places_is : length decimals ≡ places

-- a text is an exponent of this size
pub record IsShortExponent (text : List ℕ) (below : Bool) (size : ℕ) : Type 0 where
  pub digits : List ℕ
  pub form : IsExponent text below digits
  pub size_is : number digits ≡ size

-- the power of ten above and the one below
abbrev pub up_seen : Short → ℕ
up_seen s = if s.below then 0 else s.exponent

abbrev pub down_seen : Short → ℕ
down_seen s = s.places + (if s.below then s.exponent else 0)

-- a text has the form of a number, whose parts are these numbers
pub record IsShort (text : List ℕ) (s : Short) : Type 0 where
  pub terms : Terms
  pub form : IsDecimalForm text terms
  pub number_is : number terms.digits ≡ s.number
  pub places_is : terms.places ≡ s.places
  pub below_is : terms.below ≡ s.below
  pub exponent_is : number terms.exponent ≡ s.exponent
