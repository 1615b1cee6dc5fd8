-- The numbers of a text without a fault are in range.
use Rattle.std.proofs.Common.{◌≡◌, ℕ, ◌<◌, ◌^◌, ◌==◌, ℤ, pos, nat_abs, List, [], ◌∷◌, map, Bool, true, false, cond, refl, sym, ap, ◌∙◌, subst, lit<}
use Rattle.std.specs.Prelude.{nat_lt, ◌+ℤ◌, codes}
use Rattle.std.specs.Str.{bytes_eq}
use Rattle.std.proofs.lemmas.Bool.{and_parts, ltb-true}
use Rattle.std.proofs.lemmas.Slice.Eq.{bytes_eq-Decides}
use Rattle.fractions.specs.Divisors.{nat_abs-neg}
use Rattle.text_lines.specs.Lines.{lines_of}
use Rattle.number_texts.specs.Form.{is_minus, unsigned, number}
use Rattle.number_texts.specs.Read.{signed}
use Rattle.opb_text.specs.Words.{Text, is_comment, words_of}
use Rattle.opb_text.specs.Tokens.{Token, Minimum, AtLeast, Equal, End, Number, Past, Plain, Negated, Odd, is_whole, is_name, is_negated, number_token, literal_token, token_of, tokens_on}
use Rattle.opb_text.specs.Statements.{Term, last_number, open_terms, negated_numbers, open_row, sum_at, sum_of, left_of, in_range, terms_fit, sum_fits, left_fits}
use Rattle.opb_text.specs.Columns.{coefficient, constant}
use Rattle.opb_text.specs.Reading.{going_on, tokens_from, tokens_of}
use Rattle.opb_laws.specs.Faultless.{IsFaultless, IsShort, ShortToken, AreShort}
use Rattle.opb_laws.proofs.Faultless.{ended_fits}

-- ---- the numbers of tokens
either : (P : Token → Type 0) (b : Bool) (x y : Token) → P x → P y → P (cond b x y)
either P true x y h k = h
either P false x y h k = k

short_signed : (negative : Bool) (size : ℕ) → size < 2 ^ 127 → IsShort (signed negative size)
short_signed false size l = l
short_signed true size l = subst (λ (n : ℕ). n < 2 ^ 127) (sym (nat_abs-neg (pos size))) l

number_short : (negative : Bool) (size : ℕ) (b : Bool) → nat_lt size (2 ^ 127) ≡ b → ShortToken (cond b (Number (signed negative size)) Past)
number_short negative size true is = short_signed negative size (ltb-true size (2 ^ 127) is)
number_short negative size false is = tt

literal_short : (word : Text) → ShortToken (literal_token word)
literal_short word = either ShortToken (is_name word) (Plain word) _ tt (either ShortToken (is_negated word) _ Odd tt tt)

token_short : (word : Text) → ShortToken (token_of word)
token_short word =
    either ShortToken (bytes_eq word (codes ";")) End _ tt
    (either ShortToken (bytes_eq word (codes "min:")) Minimum _ tt
    (either ShortToken (bytes_eq word (codes ">=")) AtLeast _ tt
    (either ShortToken (bytes_eq word (codes "=")) Equal _ tt
    (either ShortToken (is_whole word) (number_token (is_minus word) (number (unsigned word))) (literal_token word)
    (number_short (is_minus word) (number (unsigned word)) (nat_lt (number (unsigned word)) (2 ^ 127)) refl) (literal_short word)))))

words_short : (before : List Token) (words : List Text) → AreShort before → AreShort (going_on before (map token_of words))
words_short before [] short = short
words_short before (word ∷ words) short = words_short (token_of word ∷ before) words (token_short word, short)

line_short : (before : List Token) (line : Text) → AreShort before → AreShort (going_on before (tokens_on line))
line_short before line short = by (is_comment line)
  where
    by : (b : Bool) → AreShort (going_on before (map token_of (cond b [] (words_of line))))
    by true = short
    by false = words_short before (words_of line) short

lines_short : (before : List Token) (lines : List Text) → AreShort before → AreShort (tokens_from before lines)
lines_short before [] short = short
lines_short before (line ∷ after) short = lines_short (going_on before (tokens_on line)) after (line_short before line short)

pub text_short : (text : Text) → AreShort (tokens_of text)
text_short text = lines_short [] (lines_of text) tt

-- ---- sums
pub nothing_short : IsShort (pos 0)
nothing_short = lit< tt

pub last_short : (tokens : List Token) → AreShort tokens → IsShort (last_number tokens)
last_short [] short = nothing_short
last_short (Number value ∷ before) short = short.0
last_short (Minimum ∷ before) short = nothing_short
last_short (AtLeast ∷ before) short = nothing_short
last_short (Equal ∷ before) short = nothing_short
last_short (End ∷ before) short = nothing_short
last_short (Past ∷ before) short = nothing_short
last_short (Plain name ∷ before) short = nothing_short
last_short (Negated name ∷ before) short = nothing_short
last_short (Odd ∷ before) short = nothing_short

fits_short : (z : ℤ) → in_range z ≡ true → IsShort z
fits_short z is = ltb-true (nat_abs z) (2 ^ 127) is

pub terms_short : (terms : List Term) (name : Text) → terms_fit terms ≡ true → IsShort (sum_at name terms)
terms_short [] name fits = nothing_short
terms_short (term ∷ before) name fits =
    let parts = and_parts (terms_fit before) (in_range (sum_at term.name (term ∷ before))) fits in
    by (bytes_eq term.name name) refl (fits_short (sum_at term.name (term ∷ before)) parts.1) (terms_short before name parts.0)
  where
    by : (b : Bool) → bytes_eq term.name name ≡ b → IsShort (sum_at term.name (term ∷ before)) → IsShort (sum_at name before) → IsShort (cond b (sum_at name before +ℤ term.value) (sum_at name before))
    by true same own earlier =
        let is : term.name ≡ name = (bytes_eq-Decides term.name name).0 same in
        let here : sum_at name (term ∷ before) ≡ sum_at name before +ℤ term.value = ap (λ b. cond b (sum_at name before +ℤ term.value) (sum_at name before)) same in
        subst IsShort here (subst (λ (n : Text). IsShort (sum_at n (term ∷ before))) is own)
    by false same own earlier = earlier

sum_short : (numbers : List ℤ) → sum_fits numbers ≡ true → IsShort (sum_of numbers)
sum_short [] fits = nothing_short
sum_short (n ∷ before) fits = fits_short (sum_of (n ∷ before)) (and_parts (sum_fits before) (in_range (sum_of (n ∷ before))) fits).1

pub left_short : (side : ℤ) (numbers : List ℤ) → IsShort side → left_fits side numbers ≡ true → IsShort (left_of side numbers)
left_short side [] short fits = short
left_short side (n ∷ before) short fits = fits_short (left_of side (n ∷ before)) (and_parts (left_fits side before) (in_range (left_of side (n ∷ before))) fits).1

pub chosen : (b : Bool) (x y : ℤ) → (b ≡ true → IsShort x) → IsShort y → IsShort (cond b x y)
chosen true x y h k = h refl
chosen false x y h k = k

-- ---- what the statements say
pub coefficient_short : (tokens : List Token) (i : ℕ) (name : Text) → IsFaultless tokens → IsShort (coefficient tokens i name)
coefficient_short [] i name sound = nothing_short
coefficient_short (End ∷ before) i name sound =
    chosen (open_row before == i) _ _ (λ here. terms_short (open_terms before) name (and_parts (terms_fit (open_terms before)) _ (ended_fits before sound.1 sound.0)).0) (coefficient_short before i name sound.1)
coefficient_short (Minimum ∷ before) i name sound = coefficient_short before i name sound.1
coefficient_short (AtLeast ∷ before) i name sound = coefficient_short before i name sound.1
coefficient_short (Equal ∷ before) i name sound = coefficient_short before i name sound.1
coefficient_short (Number value ∷ before) i name sound = coefficient_short before i name sound.1
coefficient_short (Past ∷ before) i name sound = coefficient_short before i name sound.1
coefficient_short (Plain other ∷ before) i name sound = coefficient_short before i name sound.1
coefficient_short (Negated other ∷ before) i name sound = coefficient_short before i name sound.1
coefficient_short (Odd ∷ before) i name sound = coefficient_short before i name sound.1

pub constant_short : (tokens : List Token) → IsFaultless tokens → IsShort (constant tokens)
constant_short [] sound = nothing_short
constant_short (End ∷ before) sound =
    chosen (open_row before == 0) _ _ (λ first. sum_short (negated_numbers before) (shown first)) (constant_short before sound.1)
  where
    shown : (open_row before == 0) ≡ true → sum_fits (negated_numbers before) ≡ true
    shown first =
        sym (ap (λ b. cond b (sum_fits (negated_numbers before)) (left_fits (last_number before) (negated_numbers before))) first)
        ∙ (and_parts (terms_fit (open_terms before)) _ (ended_fits before sound.1 sound.0)).1
constant_short (Minimum ∷ before) sound = constant_short before sound.1
constant_short (AtLeast ∷ before) sound = constant_short before sound.1
constant_short (Equal ∷ before) sound = constant_short before sound.1
constant_short (Number value ∷ before) sound = constant_short before sound.1
constant_short (Past ∷ before) sound = constant_short before sound.1
constant_short (Plain other ∷ before) sound = constant_short before sound.1
constant_short (Negated other ∷ before) sound = constant_short before sound.1
constant_short (Odd ∷ before) sound = constant_short before sound.1
