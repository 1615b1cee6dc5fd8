-- Lines and words are cut where they were joined.
use Rattle.std.proofs.Common.{◌≡◌, ℕ, ◌==◌, not, ◌||◌, List, [], ◌∷◌, ◌++◌, length, Bool, true, false, cond, refl, ◌∙◌, ap}
use Rattle.std.specs.Prelude.{All, filter}
use Rattle.std.specs.List.{slice_split, list_all, AllByRecursion}
use Rattle.std.proofs.lemmas.Bool.{and_parts, or_parts, not-true, and_from, not_from_false, or_from}
use Rattle.std.proofs.lemmas.List.{append-nil}
use Rattle.std.proofs.lemmas.List.Splits.{slice_split_at, slice_split_none}
use Rattle.std.proofs.lemmas.List.Elements.{All-nil, All-cons}
use Rattle.std.proofs.lemmas.List.Folds.{list_all-append}
use Rattle.text_lines.specs.Lines.{lines_of}
use Rattle.text_lines.proofs.LineLaws.{plain_line_first}
use Rattle.mps_profile.specs.Texts.{Text}
use Rattle.mps_profile.specs.Fields.{is_blank, fields_of}
use Rattle.mps_writer.specs.Cards.{spaced}
use Rattle.mps_written_lines.specs.Words.{ends_word, IsWord}
use Rattle.mps_written_lines.specs.Written.{ends_line, IsLine, unlined}

-- no byte passes
none_pass : (p q : ℕ → Bool) → ((b : ℕ) → q b ≡ false → p b ≡ false) → (xs : List ℕ) → list_all (λ b. not (q b)) xs ≡ true → All (λ b. p b ≡ false) xs
none_pass p q weaker [] all = All-nil (λ (b : ℕ). p b ≡ false)
none_pass p q weaker (x ∷ xs) all =
    let parts = and_parts (not (q x)) (list_all (λ b. not (q b)) xs) all in
    All-cons (λ (b : ℕ). p b ≡ false) x xs (weaker x (not-true (q x) parts.0)) (none_pass p q weaker xs parts.1)

no_return : (b : ℕ) → ends_line b ≡ false → (b == 13) ≡ false
no_return b is = (or_parts (b == 10) (b == 13) is).1

no_feed : (b : ℕ) → ends_line b ≡ false → (b == 10) ≡ false
no_feed b is = (or_parts (b == 10) (b == 13) is).0

-- the lines of a text of lines
pub lines_again : (lines : List Text) → AllByRecursion IsLine lines → lines_of (unlined lines) ≡ lines
lines_again [] all = refl
lines_again (line ∷ lines) all =
    plain_line_first line (unlined lines) (none_pass (λ b. b == 10) ends_line no_feed line all.0) (none_pass (λ b. b == 13) ends_line no_return line all.0)
    ∙ ap (λ (ls : List Text). line ∷ ls) (lines_again lines all.1)

abbrev is_part : List ℕ → Bool
is_part part = not (length part == 0)

no_blank : (b : ℕ) → ends_word b ≡ false → is_blank b ≡ false
no_blank b is = (or_parts (is_blank b) (b == 10) (or_parts (is_blank b || (b == 10)) (b == 13) is).0).0

no_line_end : (b : ℕ) → ends_word b ≡ false → ends_line b ≡ false
no_line_end b is =
    let parts = or_parts (is_blank b || (b == 10)) (b == 13) is in
    or_from (b == 10) (b == 13) (or_parts (is_blank b) (b == 10) parts.0).1 parts.1

no_blanks : (word : Text) → IsWord word → All (λ b. is_blank b ≡ false) word
no_blanks word is = none_pass is_blank ends_word no_blank word is.plain

kept : (word : Text) (parts : List Text) → IsWord word → filter is_part (word ∷ parts) ≡ word ∷ filter is_part parts
kept word parts is = ap (λ t. cond (not t) (word ∷ filter is_part parts) (filter is_part parts)) is.some

joined_fields : (word : Text) (words : List Text) → IsWord word → AllByRecursion IsWord words → fields_of (word ++ spaced words) ≡ word ∷ words
joined_fields word [] is all = ap fields_of (append-nil word) ∙ ap (filter is_part) (slice_split_none is_blank word (no_blanks word is)) ∙ kept word [] is
joined_fields word (next ∷ words) is all =
    ap (filter is_part) (slice_split_at is_blank word 32 (next ++ spaced words) (no_blanks word is) refl)
    ∙ kept word (slice_split is_blank (next ++ spaced words)) is
    ∙ ap (λ (fields : List Text). word ∷ fields) (joined_fields next words all.0 all.1)

-- the words of a line of words
pub words_again : (words : List Text) → AllByRecursion IsWord words → fields_of (spaced words) ≡ words
words_again [] all = refl
words_again (word ∷ words) all = joined_fields word words all.0 all.1

-- a word is in one line
word_line : (xs : List ℕ) → list_all (λ b. not (ends_word b)) xs ≡ true → list_all (λ b. not (ends_line b)) xs ≡ true
word_line [] all = refl
word_line (x ∷ xs) all =
    let parts = and_parts (not (ends_word x)) (list_all (λ b. not (ends_word b)) xs) all in
    and_from _ _ (not_from_false (ends_line x) (no_line_end x (not-true (ends_word x) parts.0))) (word_line xs parts.1)

pub spaced_line : (words : List Text) → AllByRecursion IsWord words → IsLine (spaced words)
spaced_line [] all = refl
spaced_line (word ∷ words) all =
    list_all-append (λ b. not (ends_line b)) word (spaced words) ∙ and_from _ _ (word_line word all.0.plain) (spaced_line words all.1)
