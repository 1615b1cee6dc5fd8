-- Tokens without a fault.
use Rattle.std.specs.Prelude.{◌≡◌, ◌<◌, ◌^◌, ℤ, unsigned_abs, List, [], ◌∷◌, None}
use Rattle.opb_text.specs.Tokens.{Token, Number}
use Rattle.opb_text.specs.Reading.{token_fault}

-- none has one by those before it
abbrev pub IsFaultless : List Token → Type 0
IsFaultless [] = Unit {0}
IsFaultless (token ∷ before) = (token_fault before token ≡ None) × IsFaultless before

-- a number that is in range, and tokens whose numbers are
abbrev pub IsShort : ℤ → Type 0
IsShort z = unsigned_abs z < 2 ^ 127

abbrev pub ShortToken : Token → Type 0
ShortToken (Number value) = IsShort value
ShortToken token = Unit {0}

abbrev pub AreShort : List Token → Type 0
AreShort [] = Unit {0}
AreShort (token ∷ before) = ShortToken token × AreShort before
