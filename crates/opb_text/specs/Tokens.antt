-- Tokens: what words are.
use Rattle.std.specs.Prelude.{ℕ, ℤ, ◌^◌, ◌==◌, ◌&&◌, nat_lt, Bool, List, map, drop, codes, slice_index, if◌then◌else◌}
use Rattle.std.specs.Str.{bytes_eq}
use Rattle.number_texts.specs.Form.{is_minus, unsigned, is_digits, number}
use Rattle.number_texts.specs.Read.{signed}
use Rattle.opb_text.specs.Words.{Text, words_on}

pub data Token : Type 0 where
  -- min:
  Minimum : Token
  -- >= and =
  AtLeast : Token
  Equal : Token
  -- the semicolon at the end of a statement
  End : Token
  -- a whole number
  Number : (value : ℤ) → Token
  -- a whole number past the range
  Past : Token
  -- a literal by its name: the column, or 1 less the column
  Plain : (name : Text) → Token
  Negated : (name : Text) → Token
  -- none of these
  Odd : Token

-- digits behind a sign, which may be missing
abbrev pub is_whole : Text → Bool
is_whole word = is_digits (unsigned word)

abbrev pub number_token : Bool → ℕ → Token
number_token negative size = if nat_lt size (2 ^ 127) then Number (signed negative size) else Past

-- x and digits
abbrev pub is_name : Text → Bool
is_name word = (slice_index word 0 == 120) && is_digits (drop 1 word)

abbrev pub is_negated : Text → Bool
is_negated word = (slice_index word 0 == 126) && is_name (drop 1 word)

abbrev pub literal_token : Text → Token
literal_token word = if is_name word then Plain word else if is_negated word then Negated (drop 1 word) else Odd

abbrev pub token_of : Text → Token
token_of word =
    if bytes_eq word (codes ";") then End
    else if bytes_eq word (codes "min:") then Minimum
    else if bytes_eq word (codes ">=") then AtLeast
    else if bytes_eq word (codes "=") then Equal
    else if is_whole word then number_token (is_minus word) (number (unsigned word))
    else literal_token word

abbrev pub tokens_on : Text → List Token
tokens_on line = map token_of (words_on line)
