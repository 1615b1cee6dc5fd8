-- The words of a line, one after the other.
use Rattle.std.proofs.Common.{◌≡◌, ℕ, zero, suc, ◌+◌, ◌-◌, ◌^◌, ◌<◌, ◌≤◌, ◌==◌, List, [], ◌∷◌, Option, Bool, true, false, cond, Some, None, refl, sym, ◌∙◌, ap, arith, get_or, length, take, drop, add-one}
use Rattle.std.specs.List.{slice_split, onto_first, position, position_from}
use Rattle.std.proofs.lemmas.List.Splits.{slice_split-cons_yes, slice_split-cons_no}
use Rattle.std.proofs.lemmas.List.Quantifiers.{position-Some}
use Rattle.std.proofs.lemmas.Iterator.Adapters.{position_from-zero}
use Rattle.std.specs.Prelude.{◌&&◌, nat_lt}
use Rattle.std.proofs.lemmas.Bool.Decides.{nat_tests}
use Rattle.number_texts.specs.Form.{parted, cut, number}
use Rattle.record_fields.specs.Words.{is_space, words_of, first, others, is_empty, is_plain, skip}
use Rattle.record_fields.specs.Views.{words_in}
use Rattle.record_fields.specs.Lists.{pairs_of, has_count}

split_at : {X : Type 0} (p : X → Bool) (xs : List X) (i : ℕ) (d : X) → i < length xs → p (get_or xs i d) ≡ true → ((k : ℕ) → k < i → p (get_or xs k d) ≡ false)
    → slice_split p xs ≡ take i xs ∷ slice_split p (drop (suc i) xs)
split_at p [] i d lt passes before = absurd (omega (arith, lt))
split_at p (x ∷ xs) zero d lt passes before = slice_split-cons_yes p x xs passes
split_at p (x ∷ xs) (suc i) d lt passes before =
    slice_split-cons_no p x xs (before 0 (omega arith)) ∙ ap (onto_first x) (split_at p xs i d (omega (arith, lt)) passes (λ k h. before (suc k) (omega (arith, h))))

words-at : (line : List ℕ) (i : ℕ) → position is_space line ≡ Some i → words_of line ≡ take i line ∷ words_of (drop (i + 1) line)
words-at line i is = let p = position-Some is_space line i 0 is in rw add-one (split_at is_space line i 0 p.0 p.1 p.2)

-- where nothing passes, the line is one word
one_word_from : (p : ℕ → Bool) (x : ℕ) (xs : List ℕ) (i : ℕ) (b : Bool) → p x ≡ b → (position_from p (i + 1) xs ≡ None → slice_split p xs ≡ xs ∷ []) → cond b (Some i) (position_from p (i + 1) xs) ≡ None → slice_split p (x ∷ xs) ≡ (x ∷ xs) ∷ []
one_word_from p x xs i true is rest bad = cc
one_word_from p x xs i false is rest none = slice_split-cons_no p x xs is ∙ ap (onto_first x) (rest none)

one_word_after : (p : ℕ → Bool) (xs : List ℕ) (i : ℕ) → position_from p i xs ≡ None → slice_split p xs ≡ xs ∷ []
one_word_after p [] i none = refl
one_word_after p (x ∷ xs) i none = one_word_from p x xs i (p x) refl (one_word_after p xs (i + 1)) none

words-last : (line : List ℕ) → position is_space line ≡ None → words_of line ≡ line ∷ []
words-last line none = one_word_after is_space line 0 (sym (position_from-zero is_space line) ∙ none)

-- a line's first word, and the words behind it
cut_by : (line : List ℕ) (at : Option ℕ) → position is_space line ≡ at → words_of line ≡ (parted line at).0 ∷ words_in (parted line at).1
cut_by line None none = words-last line none
cut_by line (Some i) is = words-at line i is

pub words-cut : (line : List ℕ) → words_of line ≡ (cut is_space line).0 ∷ words_in (cut is_space line).1
words-cut line = cut_by line (position is_space line) refl

pub no_pairs : (ws : List (List ℕ)) → is_empty ws ≡ true → pairs_of ws ≡ []
no_pairs [] e = refl
no_pairs (w ∷ ws) e = cc

pub no_pair : (ws : List (List ℕ)) → is_empty (others ws) ≡ true → pairs_of ws ≡ []
no_pair [] e = refl
no_pair (w ∷ []) e = refl
no_pair (w ∷ v ∷ ws) e = cc

pub next_pair-is : (ws : List (List ℕ)) → is_empty ws ≡ false → is_empty (others ws) ≡ false → pairs_of ws ≡ (first ws, first (others ws)) ∷ pairs_of (others (others ws))
next_pair-is [] e f = cc
next_pair-is (w ∷ []) e f = cc
next_pair-is (w ∷ v ∷ ws) e f = refl

-- a number that is too great counts no words
uncounted_by : (n l : ℕ) (a b t : Bool) → (n + n == l) ≡ b → nat_lt n (2 ^ 64) ≡ t → (n < 2 ^ 64 → ⊥) → l ≤ 2 ^ 64 → false ≡ (a && b)
uncounted_by n l false b t e f p q = refl
uncounted_by n l true false t e f p q = refl
uncounted_by n l true true true e f p q = absurd (p (grind (arith, nat_tests)))
uncounted_by n l true true false e f p q = absurd (grind (arith, nat_tests))

pub uncounted : (w : List ℕ) (ws : List (List ℕ)) (k : ℕ) → (number w < 2 ^ 64 → ⊥) → k ≤ 2 ^ 64 → k ≡ length ws → false ≡ has_count w ws
uncounted w ws k p q e = uncounted_by (number w) (length ws) (is_plain w) (number w + number w == length ws) (nat_lt (number w) (2 ^ 64)) refl refl p (omega (arith, q, e))

pub skip-next : (n i : ℕ) (ws : List (List ℕ)) → i < n → skip (n - i) ws ≡ skip (n - (i + 1)) (others ws)
skip-next n i ws lt = let k : n - i ≡ suc (n - (i + 1)) = omega (arith, lt) in rw k refl
