-- A text has no more tokens than bytes, and no more rows and columns than tokens.
use Rattle.std.proofs.Common.{◌≡◌, ℕ, suc, ◌+◌, ◌≤◌, ◌==◌, not, List, [], ◌∷◌, ◌++◌, length, length-append, map, Bool, true, false, cond, refl, ap, ◌∙◌, arith}
use Rattle.std.specs.Prelude.{filter, reverse, is_some}
use Rattle.std.specs.List.{slice_split, onto_first}
use Rattle.std.proofs.Math.Dec.{eqb-suc-zero}
use Rattle.std.proofs.lemmas.List.{length-map, length-reverse}
use Rattle.std.proofs.lemmas.List.Splits.{slice_split-cons_yes, slice_split-cons_no}
use Rattle.text_lines.specs.Lines.{ended, but_return, without_return, lines_of}
use Rattle.names.specs.Names.{place}
use Rattle.mps_profile.specs.Columns.{joined}
use Rattle.opb_text.specs.Words.{Text, is_space, is_word, spaced, words_of, is_comment}
use Rattle.opb_text.specs.Tokens.{Token, Minimum, AtLeast, Equal, End, Number, Past, Plain, Negated, Odd, token_of, tokens_on}
use Rattle.opb_text.specs.Statements.{open_row}
use Rattle.opb_text.specs.Columns.{column_names}
use Rattle.opb_text.specs.Reading.{going_on, tokens_from, tokens_of}

-- ---- the words of a line
filled : (part : List ℕ) (b : ℕ) (parts : List (List ℕ)) → length (filter is_word ((b ∷ part) ∷ parts)) ≡ suc (length (filter is_word parts))
filled part b parts = ap (λ t. length (cond (not t) ((b ∷ part) ∷ filter is_word parts) (filter is_word parts))) (eqb-suc-zero (length part))

either : (t : Bool) (part : List ℕ) (rest : List (List ℕ)) → length rest ≤ length (cond t (part ∷ rest) rest)
either true part rest = omega arith
either false part rest = omega arith

onto_words : (b : ℕ) (parts : List (List ℕ)) → length (filter is_word (onto_first b parts)) ≤ suc (length (filter is_word parts))
onto_words b [] = omega arith
onto_words b (part ∷ parts) = omega (arith, filled part b parts, either (is_word part) part (filter is_word parts))

pub words_few : (line : Text) → length (words_of line) ≤ length line
words_few [] = omega arith
words_few (b ∷ bytes) = by (b == 59) (is_space b) refl refl (words_few bytes)
  where
    by : (t s : Bool) → (b == 59) ≡ t → is_space b ≡ s → length (words_of bytes) ≤ length bytes → length (words_of (b ∷ bytes)) ≤ suc (length bytes)
    by true s is space few =
        let e : spaced (b ∷ bytes) ≡ 32 ∷ 59 ∷ 32 ∷ spaced bytes = ap (λ u. cond u (32 ∷ 59 ∷ 32 ∷ spaced bytes) (b ∷ spaced bytes)) is in
        let w : length (words_of (b ∷ bytes)) ≡ suc (length (words_of bytes)) = ap (λ (l : List ℕ). length (filter is_word (slice_split is_space l))) e in
        omega (arith, w, few)
    by false true is space few =
        let e : spaced (b ∷ bytes) ≡ b ∷ spaced bytes = ap (λ u. cond u (32 ∷ 59 ∷ 32 ∷ spaced bytes) (b ∷ spaced bytes)) is in
        let w : length (words_of (b ∷ bytes)) ≡ length (words_of bytes) =
        ap (λ (l : List ℕ). length (filter is_word (slice_split is_space l))) e ∙ ap (λ (ps : List (List ℕ)). length (filter is_word ps)) (slice_split-cons_yes is_space b (spaced bytes) space) in
        omega (arith, w, few)
    by false false is space few =
        let e : spaced (b ∷ bytes) ≡ b ∷ spaced bytes = ap (λ u. cond u (32 ∷ 59 ∷ 32 ∷ spaced bytes) (b ∷ spaced bytes)) is in
        let w : length (words_of (b ∷ bytes)) ≡ length (filter is_word (onto_first b (slice_split is_space (spaced bytes)))) =
        ap (λ (l : List ℕ). length (filter is_word (slice_split is_space l))) e ∙ ap (λ (ps : List (List ℕ)). length (filter is_word ps)) (slice_split-cons_no is_space b (spaced bytes) space) in
        omega (arith, w, few, onto_words b (slice_split is_space (spaced bytes)))

tokens_few : (line : Text) → length (tokens_on line) ≤ length line
tokens_few line = by (is_comment line)
  where
    by : (t : Bool) → length (map token_of (cond t [] (words_of line))) ≤ length line
    by true = omega arith
    by false = omega (arith, length-map (words_of line) token_of, words_few line)

-- ---- the bytes of lines
abbrev pub total : List Text → ℕ
total [] = 0
total (part ∷ parts) = length part + total parts

onto_total : (b : ℕ) (parts : List Text) → total (onto_first b parts) ≤ suc (total parts)
onto_total b [] = omega arith
onto_total b (part ∷ parts) = omega arith

abbrev is_feed : ℕ → Bool
is_feed b = b == 10

split_total : (text : Text) → total (slice_split is_feed text) ≤ length text
split_total [] = omega arith
split_total (b ∷ bytes) = by (b == 10) refl (split_total bytes)
  where
    by : (t : Bool) → (b == 10) ≡ t → total (slice_split is_feed bytes) ≤ length bytes → total (slice_split is_feed (b ∷ bytes)) ≤ suc (length bytes)
    by true is few = let e : total (slice_split is_feed (b ∷ bytes)) ≡ 0 + total (slice_split is_feed bytes) = ap total (slice_split-cons_yes is_feed b bytes is) in omega (arith, e, few)
    by false is few =
        let e : total (slice_split is_feed (b ∷ bytes)) ≡ total (onto_first b (slice_split is_feed bytes)) = ap total (slice_split-cons_no is_feed b bytes is) in
        omega (arith, e, few, onto_total b (slice_split is_feed bytes))

shorter : (bytes : Text) → length (but_return bytes) ≤ length bytes
shorter [] = omega arith
shorter (last ∷ before) = by (last == 13)
  where
    by : (t : Bool) → length (cond t before (last ∷ before)) ≤ suc (length before)
    by true = omega arith
    by false = omega arith

kept_shorter : (part : Text) → length (without_return part) ≤ length part
kept_shorter part = omega (arith, length-reverse (but_return (reverse part)), shorter (reverse part), length-reverse part)

ended_total : (parts : List Text) → total (ended without_return parts) ≤ total parts
ended_total [] = omega arith
ended_total ([] ∷ []) = omega arith
ended_total ((b ∷ bytes) ∷ []) = omega arith
ended_total ([] ∷ next ∷ more) = omega (arith, kept_shorter [], ended_total (next ∷ more))
ended_total ((b ∷ bytes) ∷ next ∷ more) = omega (arith, kept_shorter (b ∷ bytes), ended_total (next ∷ more))

lines_total : (text : Text) → total (lines_of text) ≤ length text
lines_total text = omega (arith, ended_total (slice_split is_feed text), split_total text)

-- ---- the tokens of lines
going_length : (before tokens : List Token) → length (going_on before tokens) ≡ length before + length tokens
going_length before [] = omega arith
going_length before (token ∷ after) = omega (arith, going_length (token ∷ before) after)

from_few : (before : List Token) (lines : List Text) → length (tokens_from before lines) ≤ length before + total lines
from_few before [] = omega arith
from_few before (line ∷ after) = omega (arith, from_few (going_on before (tokens_on line)) after, going_length before (tokens_on line), tokens_few line)

pub text_few : (text : Text) → length (tokens_of text) ≤ length text
text_few text = omega (arith, from_few [] (lines_of text), lines_total text)

-- ---- rows and columns
pub rows_few : (tokens : List Token) → open_row tokens ≤ suc (length tokens)
rows_few [] = omega arith
rows_few (Minimum ∷ before) = omega arith
rows_few (End ∷ before) = omega (arith, rows_few before)
rows_few (AtLeast ∷ before) = omega (arith, rows_few before)
rows_few (Equal ∷ before) = omega (arith, rows_few before)
rows_few (Number value ∷ before) = omega (arith, rows_few before)
rows_few (Past ∷ before) = omega (arith, rows_few before)
rows_few (Plain name ∷ before) = omega (arith, rows_few before)
rows_few (Negated name ∷ before) = omega (arith, rows_few before)
rows_few (Odd ∷ before) = omega (arith, rows_few before)

joined_few : (name : Text) (names : List Text) → length (joined name names) ≤ suc (length names)
joined_few name names = by (is_some (place name names))
  where
    by : (t : Bool) → length (cond t names (names ++ name ∷ [])) ≤ suc (length names)
    by true = omega arith
    by false = omega (arith, length-append names (name ∷ []))

pub columns_few : (tokens : List Token) → length (column_names tokens) ≤ length tokens
columns_few [] = omega arith
columns_few (Minimum ∷ before) = omega (arith, columns_few before)
columns_few (End ∷ before) = omega (arith, columns_few before)
columns_few (AtLeast ∷ before) = omega (arith, columns_few before)
columns_few (Equal ∷ before) = omega (arith, columns_few before)
columns_few (Number value ∷ before) = omega (arith, columns_few before)
columns_few (Past ∷ before) = omega (arith, columns_few before)
columns_few (Plain name ∷ before) = omega (arith, columns_few before, joined_few name (column_names before))
columns_few (Negated name ∷ before) = omega (arith, columns_few before, joined_few name (column_names before))
columns_few (Odd ∷ before) = omega (arith, columns_few before)
