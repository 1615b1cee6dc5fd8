-- What holds of each byte of a text holds of each byte of its lines and parts.
use Rattle.std.proofs.Common.{◌≡◌, ℕ, zero, suc, ◌==◌, ◌≤◌, Bool, true, false, cond, List, [], ◌∷◌, take, refl, arith}
use Rattle.std.specs.List.{All, slice_split, onto_first}
use Rattle.std.proofs.lemmas.List.Elements.{All-nil, All-cons, All-head, All-tail, All-weaker}
use Rattle.text_lines.specs.Lines.{but_return, without_return, ended, lines_of, IsUnfed}
use Rattle.text_lines.proofs.Returns.{all_reverse}
use Rattle.mps_profile.specs.Texts.{Text}
use Rattle.mps_profile.specs.Fields.{no_first, trimmed}
use Rattle.mps_profile.specs.Reading.{read_from, is_ended, lines_read}
use Rattle.mps_profile.specs.declared.dialect.Dialect.{Dialect}

module _ {X : Type 0} (P : X → Type 0) where
  -- a shorter beginning
  pub all_shorter : (m n : ℕ) (xs : List X) → m ≤ n → All P (take n xs) → All P (take m xs)
  all_shorter zero n xs l h = All-nil P
  all_shorter (suc m) zero xs l h = absurd (omega (arith, l))
  all_shorter (suc m) (suc n) [] l h = h
  all_shorter (suc m) (suc n) (x ∷ xs) l h = All-cons P x (take m xs) (All-head P x (take n xs) h) (all_shorter m n xs (omega (arith, l)) (All-tail P x (take n xs) h))

-- the parts between the elements that pass a test have none of these
module _ {X : Type 0} (P : X → Type 0) (p : X → Bool) where
  abbrev Kept : X → Type 0
  Kept x = P x × (p x ≡ false)

  onto : (x : X) (parts : List (List X)) → Kept x → All (All Kept) parts → All (All Kept) (onto_first x parts)
  onto x [] k h = All-cons (All Kept) (x ∷ []) [] (All-cons Kept x [] k (All-nil Kept)) (All-nil (All Kept))
  onto x (part ∷ parts) k h =
      All-cons (All Kept) (x ∷ part) parts (All-cons Kept x part k (All-head (All Kept) part parts h)) (All-tail (All Kept) part parts h)

  pub split_all : (xs : List X) → All P xs → All (All (λ x. P x × (p x ≡ false))) (slice_split p xs)
  split_all [] h = All-cons (All Kept) [] [] (All-nil Kept) (All-nil (All Kept))
  split_all (x ∷ xs) h = by (p x) refl (split_all xs (All-tail P x xs h))
    where
      by : (b : Bool) → p x ≡ b → All (All Kept) (slice_split p xs) → All (All Kept) (cond b ([] ∷ slice_split p xs) (onto_first x (slice_split p xs)))
      by true is rest = All-cons (All Kept) [] (slice_split p xs) (All-nil Kept) rest
      by false is rest = onto x (slice_split p xs) (All-head P x xs h, is) rest

module _ (P : ℕ → Type 0) where
  no_first_all : (xs : Text) → All P xs → All P (no_first xs)
  no_first_all [] h = h
  no_first_all (x ∷ xs) h = by (x == 32) (no_first_all xs (All-tail P x xs h))
    where
      by : (b : Bool) → All P (no_first xs) → All P (cond b (no_first xs) (x ∷ xs))
      by true rest = rest
      by false rest = h

  pub trimmed_all : (part : Text) → All P part → All P (trimmed part)
  trimmed_all part h = no_first_all _ (all_reverse P _ (no_first_all _ (all_reverse P part h)))

  but_return_all : (xs : Text) → All P xs → All P (but_return xs)
  but_return_all [] h = h
  but_return_all (x ∷ xs) h = by (x == 13)
    where
      by : (b : Bool) → All P (cond b xs (x ∷ xs))
      by true = All-tail P x xs h
      by false = h

  without_return_all : (part : Text) → All P part → All P (without_return part)
  without_return_all part h = all_reverse P _ (but_return_all _ (all_reverse P part h))

  ended_all : (parts : List Text) → All (All P) parts → All (All P) (ended without_return parts)
  ended_all [] h = All-nil (All P)
  ended_all ([] ∷ []) h = All-nil (All P)
  ended_all ((b ∷ bytes) ∷ []) h = h
  ended_all ([] ∷ next ∷ more) h =
      All-cons (All P) (without_return []) (ended without_return (next ∷ more)) (without_return_all [] (All-head (All P) [] (next ∷ more) h)) (ended_all (next ∷ more) (All-tail (All P) [] (next ∷ more) h))
  ended_all ((b ∷ bytes) ∷ next ∷ more) h =
      All-cons (All P) (without_return (b ∷ bytes)) (ended without_return (next ∷ more))
      (without_return_all (b ∷ bytes) (All-head (All P) (b ∷ bytes) (next ∷ more) h)) (ended_all (next ∷ more) (All-tail (All P) (b ∷ bytes) (next ∷ more) h))

abbrev Anything : ℕ → Type 0
Anything b = Unit {0}

lines_unfed : (text : List ℕ) → All IsUnfed (lines_of text)
lines_unfed text =
    ended_all (λ b. (b == 10) ≡ false) (slice_split (λ b. b == 10) text)
    (All-weaker (All (λ b. Anything b × ((b == 10) ≡ false))) IsUnfed
    (λ part h. All-weaker (λ b. Anything b × ((b == 10) ≡ false)) (λ b. (b == 10) ≡ false) (λ b k. k.1) part h)
    (slice_split (λ b. b == 10) text) (split_all Anything (λ b. b == 10) text (λ k d l. tt)))

-- what holds of each line of a text holds of those that are read
read_all : (dialect : Dialect) (P : Text → Type 0) (before after : List Text) → All P before → All P after → All P (read_from dialect before after)
read_all dialect P before [] b a = b
read_all dialect P before (line ∷ after) b a =
    by (is_ended dialect before) (read_all dialect P (line ∷ before) after (All-cons P line before (All-head P line after a) b) (All-tail P line after a))
  where
    by : (t : Bool) → All P (read_from dialect (line ∷ before) after) → All P (cond t before (read_from dialect (line ∷ before) after))
    by true rest = b
    by false rest = rest

-- no line that is read has a line feed
pub read_unfed : (dialect : Dialect) (text : List ℕ) → All IsUnfed (lines_read dialect text)
read_unfed dialect text = read_all dialect IsUnfed [] (lines_of text) (All-nil IsUnfed) (lines_unfed text)
