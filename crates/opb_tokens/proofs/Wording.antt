-- How words go on from a line's first word on.
use Rattle.std.proofs.Common.{◌≡◌, ℕ, ◌+◌, ◌-◌, ◌<◌, ◌==◌, not, ◌||◌, List, [], ◌∷◌, ◌++◌, Bool, true, false, cond, Some, None, refl, ◌∙◌, sym, subst, ap, arith, length, take, drop, get_or}
use Rattle.std.proofs.lemmas.Grind.{common_steps}
use Rattle.std.proofs.lemmas.Bool.{true≢false, false≢true, eqb-true}
use Rattle.std.proofs.lemmas.List.{drop_more, length-drop, take_all}
use Rattle.std.proofs.Math.Dec.{eqb-suc-zero}
use Rattle.std.specs.Prelude.{position, filter, All, Option, IfSome}
use Rattle.std.specs.List.{slice_split}
use Rattle.std.proofs.lemmas.List.Elements.{All-head, All-tail}
use Rattle.std.proofs.lemmas.List.Splits.{slice_split-cons_yes, slice_split_at, slice_split_none}
use Rattle.std.proofs.lemmas.List.Quantifiers.{position-Some}
use Rattle.text_lines.proofs.Splitting.{parts_at, none_before, none_passes}
use Rattle.opb_text.specs.Words.{is_space, is_word, spaced, words_of}
use Rattle.opb_tokens.specs.Breaks.{is_break}

or_false : (a b : Bool) → (a || b) ≡ false → (a ≡ false) × (b ≡ false)
or_false true b h = cc
or_false false b h = (refl, h)

unspaced : (b : ℕ) (bytes : List ℕ) → (b == 59) ≡ false → spaced (b ∷ bytes) ≡ b ∷ spaced bytes
unspaced b bytes is = ap (λ t. cond t (32 ∷ 59 ∷ 32 ∷ spaced bytes) (b ∷ spaced bytes)) is

-- a space is no semicolon
space_other : (b : ℕ) (t : Bool) → is_space b ≡ true → (b == 59) ≡ t → (b == 59) ≡ false
space_other b false is same = same
space_other b true is same = let e : b ≡ 59 = eqb-true b 59 same in let f : is_space 59 ≡ true = sym (ap is_space e) ∙ is in absurd (false≢true f)

-- a space before words is none of them
pub words-space : (b : ℕ) (bytes : List ℕ) → is_space b ≡ true → words_of (b ∷ bytes) ≡ words_of bytes
words-space b bytes is =
    ap (λ (s : List ℕ). filter is_word (slice_split is_space s)) (unspaced b bytes (space_other b (b == 59) is refl))
    ∙ ap (filter is_word) (slice_split-cons_yes is_space b (spaced bytes) is)

kept : (part : List ℕ) (parts : List (List ℕ)) → 0 < length part → filter is_word (part ∷ parts) ≡ part ∷ filter is_word parts
kept [] parts some = absurd (omega (arith, some))
kept (b ∷ bytes) parts some = ap (λ t. cond (not t) ((b ∷ bytes) ∷ filter is_word parts) (filter is_word parts)) (eqb-suc-zero (length bytes))

no_spaces : (word : List ℕ) → All (λ b. is_break b ≡ false) word → All (λ b. is_space b ≡ false) word
no_spaces word all k d lt = (or_false _ _ (all k d lt)).0

spaced_word : (word rest : List ℕ) → All (λ b. is_break b ≡ false) word → spaced (word ++ rest) ≡ word ++ spaced rest
spaced_word [] rest all = refl
spaced_word (b ∷ bytes) rest all =
    unspaced b (bytes ++ rest) (or_false _ _ (All-head (λ c. is_break c ≡ false) b bytes all)).1
    ∙ ap (λ (s : List ℕ). b ∷ s) (spaced_word bytes rest (All-tail (λ c. is_break c ≡ false) b bytes all))

-- a semicolon is a word
pub words-end : (bytes : List ℕ) → words_of (59 ∷ bytes) ≡ (59 ∷ []) ∷ words_of bytes
words-end bytes = refl

-- a word before a break
split_before : (b : ℕ) (t : Bool) (word bytes : List ℕ) → 0 < length word → All (λ c. is_space c ≡ false) word → is_break b ≡ true → (b == 59) ≡ t
    → filter is_word (slice_split is_space (word ++ spaced (b ∷ bytes))) ≡ word ∷ words_of (b ∷ bytes)
split_before b true word bytes some all is same =
    let e : b ≡ 59 = eqb-true b 59 same in
    ap (λ (c : ℕ). filter is_word (slice_split is_space (word ++ spaced (c ∷ bytes)))) e
    ∙ ap (filter is_word) (slice_split_at is_space word 32 (59 ∷ 32 ∷ spaced bytes) all refl)
    ∙ kept word (slice_split is_space (59 ∷ 32 ∷ spaced bytes)) some
    ∙ ap (λ (c : ℕ). word ∷ words_of (c ∷ bytes)) (sym e)
split_before b false word bytes some all is other =
    let space : is_space b ≡ true = by (is_space b) (b == 59) is other in
    ap (λ (s : List ℕ). filter is_word (slice_split is_space (word ++ s))) (unspaced b bytes other)
    ∙ ap (filter is_word) (slice_split_at is_space word b (spaced bytes) all space)
    ∙ kept word (slice_split is_space (spaced bytes)) some
    ∙ ap (λ (ws : List (List ℕ)). word ∷ ws) (sym (words-space b bytes space))
  where
    by : (s t : Bool) → (s || t) ≡ true → t ≡ false → s ≡ true
    by true t h n = refl
    by false t h n = absurd (true≢false (sym h ∙ n))

-- a word ends at the first break
pub words-at : (text : List ℕ) (i : ℕ) → 0 < i → position is_break text ≡ Some i → words_of text ≡ take i text ∷ words_of (drop i text)
words-at text i some is =
    let p = position-Some is_break text i 0 is in
    let long : 0 < length (take i text) = grind (arith, common_steps, p.0, some) in
    let all = none_before is_break text i is in
    let b = get_or text i 0 in
    let rest = drop (i + 1) text in
    let parted : drop i text ≡ b ∷ rest = drop_more text i 0 p.0 in
    ap words_of (parts_at is_break text i 0 is)
    ∙ ap (λ (s : List ℕ). filter is_word (slice_split is_space s)) (spaced_word (take i text) (b ∷ rest) all)
    ∙ split_before b (b == 59) (take i text) rest long (no_spaces (take i text) all) p.1 refl
    ∙ ap (λ (s : List ℕ). take i text ∷ words_of s) (sym parted)

no_ends : (text : List ℕ) → All (λ b. is_break b ≡ false) text → spaced text ≡ text
no_ends [] all = refl
no_ends (b ∷ bytes) all =
    unspaced b bytes (or_false _ _ (All-head (λ c. is_break c ≡ false) b bytes all)).1
    ∙ ap (λ (s : List ℕ). b ∷ s) (no_ends bytes (All-tail (λ c. is_break c ≡ false) b bytes all))

-- without a break the text is one word
pub words-last : (text : List ℕ) → 0 < length text → position is_break text ≡ None → words_of text ≡ text ∷ []
words-last text some none =
    let all = none_passes is_break text none in
    ap (λ (s : List ℕ). filter is_word (slice_split is_space s)) (no_ends text all)
    ∙ ap (filter is_word) (slice_split_none is_space text (no_spaces text all))
    ∙ kept text [] some

-- the same where the rest is cut to its own length
pub words-cut : (text : List ℕ) (i : ℕ) → IfSome (position is_break text) (λ end. 0 < end) → position is_break text ≡ Some i
    → words_of text ≡ take i text ∷ words_of (take (length text - i) (drop i text))
words-cut text i begins is =
    let P : Option ℕ → Type 0 = λ o. IfSome o (λ end. 0 < end) in
    let long = length-drop i text in
    words-at text i (subst P is begins) is
    ∙ ap (λ (s : List ℕ). take i text ∷ words_of s) (sym (take_all (length text - i) (drop i text) (omega (arith, long))))
