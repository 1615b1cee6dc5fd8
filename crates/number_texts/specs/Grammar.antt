-- The form of a number's text, as a relation between bytes and their parts.
use Rattle.std.specs.Prelude.{◌≡◌, ℕ, ◌<◌, Bool, true, false, List, [], ◌∷◌, ◌++◌, length, ◌⊎◌}
use Rattle.std.specs.List.{list_all}
use Rattle.std.specs.Char.{is_ascii_digit}
use Rattle.fractions.specs.declared.Numbers.{Numbers}
use Rattle.fractions.specs.declared.Numbers.TheVariants.{Decimal, Fractions}
use Rattle.number_texts.specs.Form.{is_exponent, number, Terms}

pub record IsDigits (ds : List ℕ) : Type 0 where
  pub some : 0 < length ds
  pub all : list_all is_ascii_digit ds ≡ true

-- nothing, a plus, or a minus
abbrev pub IsSign : List ℕ → Bool → Type 0
IsSign [] below = below ≡ false
IsSign (c ∷ []) below = ((c ≡ 43) × (below ≡ false)) ⊎ ((c ≡ 45) × (below ≡ true))
IsSign (c ∷ d ∷ cs) below = ⊥

-- digits with at most one point among them
pub record IsMantissa (bytes whole decimals : List ℕ) : Type 0 where
  pub digits : IsDigits (whole ++ decimals)
  pub parts : ((bytes ≡ whole) × (decimals ≡ [])) ⊎ (bytes ≡ whole ++ 46 ∷ decimals)

-- nothing, or a letter, a sign and digits
pub record IsSome (bytes : List ℕ) (below : Bool) (ds : List ℕ) : Type 0 where
  pub letter : ℕ
  pub sign : List ℕ
  pub is_letter : is_exponent letter ≡ true
  pub is_sign : IsSign sign below
  pub digits : IsDigits ds
  pub parts : bytes ≡ letter ∷ (sign ++ ds)

abbrev pub IsExponent : List ℕ → Bool → List ℕ → Type 0
IsExponent bytes below ds = ((bytes ≡ []) × (below ≡ false) × (ds ≡ [])) ⊎ IsSome bytes below ds

-- a number's text without its sign, and what its parts are
pub record IsDecimalForm (bytes : List ℕ) (t : Terms) : Type 0 where
  pub whole : List ℕ
  pub decimals : List ℕ
  pub mantissa : List ℕ
  pub behind : List ℕ
  pub is_mantissa : IsMantissa mantissa whole decimals
  pub is_exponent : IsExponent behind t.below t.exponent
  pub parts : bytes ≡ mantissa ++ behind
  pub digits : t.digits ≡ whole ++ decimals
  pub places : t.places ≡ length decimals

-- a sign, and a number with a point and an exponent behind it
pub record IsDecimalText (bytes : List ℕ) (negative : Bool) (t : Terms) : Type 0 where
  pub sign : List ℕ
  pub body : List ℕ
  pub is_sign : IsSign sign negative
  pub form : IsDecimalForm body t
  pub parts : bytes ≡ sign ++ body

-- a sign, digits, a slash and digits
pub record IsQuotientText (bytes : List ℕ) (negative : Bool) (over under : List ℕ) : Type 0 where
  pub sign : List ℕ
  pub is_sign : IsSign sign negative
  pub over_digits : IsDigits over
  pub under_digits : IsDigits under
  pub parts : bytes ≡ sign ++ (over ++ 47 ∷ under)

pub record HasDecimalText (bytes : List ℕ) : Type 0 where
  pub negative : Bool
  pub terms : Terms
  pub text : IsDecimalText bytes negative terms

pub record HasQuotientText (bytes : List ℕ) : Type 0 where
  pub negative : Bool
  pub over : List ℕ
  pub under : List ℕ
  pub text : IsQuotientText bytes negative over under
  pub some : 0 < number under

-- the texts of numbers, among decimal numbers alone or all fractions
abbrev pub IsNumberText : Numbers → List ℕ → Type 0
IsNumberText Decimal bytes = HasDecimalText bytes
IsNumberText Fractions bytes = HasDecimalText bytes ⊎ HasQuotientText bytes
