-- The names of literals, and so of columns, are x and digits.
use Rattle.std.proofs.Common.{◌≡◌, ℕ, List, [], ◌∷◌, ◌++◌, map, drop, Bool, true, false, cond, refl}
use Rattle.std.specs.Prelude.{is_some, nat_lt, codes, ◌^◌}
use Rattle.std.specs.List.{All}
use Rattle.std.specs.Str.{bytes_eq}
use Rattle.std.proofs.lemmas.Bool.{and_parts}
use Rattle.std.proofs.lemmas.List.Elements.{All-append, All-cons, All-nil}
use Rattle.names.specs.Names.{place}
use Rattle.number_texts.specs.Form.{is_minus, unsigned, number}
use Rattle.text_lines.specs.Lines.{lines_of}
use Rattle.opb_text.specs.Words.{Text, is_comment, words_of}
use Rattle.opb_text.specs.Tokens.{Token, Minimum, AtLeast, Equal, End, Number, Past, Plain, Negated, Odd, is_whole, is_name, is_negated, number_token, literal_token, token_of, tokens_on}
use Rattle.opb_text.specs.Columns.{column_names}
use Rattle.opb_text.specs.Reading.{going_on, tokens_from, tokens_of}
use Rattle.opb_named.specs.Ordinary.{IsOrdinary}
use Rattle.opb_named.proofs.Ordinary.{literal_ordinary}

-- a literal's name is one
abbrev pub NamedToken : Token → Type 0
NamedToken (Plain name) = IsOrdinary name
NamedToken (Negated name) = IsOrdinary name
NamedToken token = Unit {0}

abbrev pub AreNamed : List Token → Type 0
AreNamed [] = Unit {0}
AreNamed (token ∷ before) = NamedToken token × AreNamed before

-- ---- words
either : (b : Bool) (x y : Token) → NamedToken x → NamedToken y → NamedToken (cond b x y)
either true x y h k = h
either false x y h k = k

number_named : (negative : Bool) (size : ℕ) → NamedToken (number_token negative size)
number_named negative size = either (nat_lt size (2 ^ 127)) _ Past tt tt

plain_named : (word : Text) (b : Bool) (other : Token) → is_name word ≡ b → NamedToken other → NamedToken (cond b (Plain word) other)
plain_named word true other is h = literal_ordinary word is
plain_named word false other is h = h

negated_named : (word : Text) (b : Bool) → is_negated word ≡ b → NamedToken (cond b (Negated (drop 1 word)) Odd)
negated_named word true is = literal_ordinary (drop 1 word) (and_parts _ (is_name (drop 1 word)) is).1
negated_named word false is = tt

literal_named : (word : Text) → NamedToken (literal_token word)
literal_named word = plain_named word (is_name word) _ refl (negated_named word (is_negated word) refl)

token_named : (word : Text) → NamedToken (token_of word)
token_named word =
    either (bytes_eq word (codes ";")) End _ tt
    (either (bytes_eq word (codes "min:")) Minimum _ tt
    (either (bytes_eq word (codes ">=")) AtLeast _ tt
    (either (bytes_eq word (codes "=")) Equal _ tt
    (either (is_whole word) (number_token (is_minus word) (number (unsigned word))) (literal_token word) (number_named (is_minus word) (number (unsigned word))) (literal_named word)))))

-- ---- lines
words_named : (before : List Token) (words : List Text) → AreNamed before → AreNamed (going_on before (map token_of words))
words_named before [] named = named
words_named before (word ∷ words) named = words_named (token_of word ∷ before) words (token_named word, named)

line_named : (before : List Token) (line : Text) → AreNamed before → AreNamed (going_on before (tokens_on line))
line_named before line named = by (is_comment line)
  where
    by : (b : Bool) → AreNamed (going_on before (map token_of (cond b [] (words_of line))))
    by true = named
    by false = words_named before (words_of line) named

lines_named : (before : List Token) (lines : List Text) → AreNamed before → AreNamed (tokens_from before lines)
lines_named before [] named = named
lines_named before (line ∷ after) named = lines_named (going_on before (tokens_on line)) after (line_named before line named)

pub text_named : (text : Text) → AreNamed (tokens_of text)
text_named text = lines_named [] (lines_of text) tt

-- ---- columns
joined_ordinary : (name : Text) (names : List Text) → IsOrdinary name → All IsOrdinary names → All IsOrdinary (cond (is_some (place name names)) names (names ++ name ∷ []))
joined_ordinary name names o all = by (is_some (place name names))
  where
    by : (b : Bool) → All IsOrdinary (cond b names (names ++ name ∷ []))
    by true = all
    by false = All-append IsOrdinary names (name ∷ []) all (All-cons IsOrdinary name [] o (All-nil IsOrdinary))

pub columns_ordinary : (tokens : List Token) → AreNamed tokens → All IsOrdinary (column_names tokens)
columns_ordinary [] named = All-nil IsOrdinary
columns_ordinary (Minimum ∷ before) named = columns_ordinary before named.1
columns_ordinary (End ∷ before) named = columns_ordinary before named.1
columns_ordinary (AtLeast ∷ before) named = columns_ordinary before named.1
columns_ordinary (Equal ∷ before) named = columns_ordinary before named.1
columns_ordinary (Number value ∷ before) named = columns_ordinary before named.1
columns_ordinary (Past ∷ before) named = columns_ordinary before named.1
columns_ordinary (Plain name ∷ before) named = joined_ordinary name (column_names before) named.0 (columns_ordinary before named.1)
columns_ordinary (Negated name ∷ before) named = joined_ordinary name (column_names before) named.0 (columns_ordinary before named.1)
columns_ordinary (Odd ∷ before) named = columns_ordinary before named.1
