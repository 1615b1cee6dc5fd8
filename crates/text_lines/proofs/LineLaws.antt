-- Lines are cut where they ended.
use Rattle.std.proofs.Common.{◌≡◌, ℕ, ◌+◌, ◌<◌, ◌==◌, false, List, [], ◌∷◌, ◌++◌, length, take, drop, get_or, Some, refl, ap, ◌∙◌, arith}
use Rattle.std.specs.Prelude.{All, position}
use Rattle.std.specs.List.{slice_split}
use Rattle.std.proofs.lemmas.Bool.{eqb-true}
use Rattle.std.proofs.lemmas.List.Quantifiers.{position-Some}
use Rattle.std.proofs.lemmas.List.Splits.{slice_split_at, slice_split_none, length-slice_split}
use Rattle.text_lines.specs.Lines.{ended, lines_by, without_return, lines_of, IsUnfed}
use Rattle.text_lines.proofs.Returns.{no_return}
use Rattle.text_lines.proofs.Splitting.{parts_at}

-- the first line feed stands between what is before it and what is after it
pub parts_at_feed : (text : List ℕ) (i : ℕ) → position (λ b. b == 10) text ≡ Some i → text ≡ take i text ++ 10 ∷ drop (i + 1) text
parts_at_feed text i is =
    let at = parts_at (λ (b : ℕ). b == 10) text i 0 is in
    at ∙ ap (λ (b : ℕ). take i text ++ b ∷ drop (i + 1) text) (eqb-true (get_or text i 0) 10 (position-Some (λ (b : ℕ). b == 10) text i 0 is).1)

module _ (kept : List ℕ → List ℕ) where
  -- a part before others ended with a line feed
  before_parts : (part : List ℕ) (parts : List (List ℕ)) → 0 < length parts → ended kept (part ∷ parts) ≡ kept part ∷ ended kept parts
  before_parts part [] some = absurd (omega (arith, some))
  before_parts [] (next ∷ more) some = refl
  before_parts (b ∷ bytes) (next ∷ more) some = refl

  -- a line without line feeds, before a line feed, is the first one
  pub line_first : (line rest : List ℕ) → IsUnfed line → lines_by kept (line ++ 10 ∷ rest) ≡ kept line ∷ lines_by kept rest
  line_first line rest unfed =
      ap (ended kept) (slice_split_at (λ (b : ℕ). b == 10) line 10 rest unfed refl)
      ∙ before_parts line (slice_split (λ (b : ℕ). b == 10) rest) (omega (arith, length-slice_split (λ (b : ℕ). b == 10) rest))

  -- some bytes without a line feed are one line
  pub one_line : (text : List ℕ) → 0 < length text → IsUnfed text → lines_by kept text ≡ text ∷ []
  one_line [] some unfed = absurd (omega (arith, some))
  one_line (b ∷ bytes) some unfed = ap (ended kept) (slice_split_none (λ (c : ℕ). c == 10) (b ∷ bytes) unfed)

-- the same of a line without carriage returns too, which stays as it is
pub plain_line_first : (line rest : List ℕ) → IsUnfed line → All (λ b. (b == 13) ≡ false) line → lines_of (line ++ 10 ∷ rest) ≡ line ∷ lines_of rest
plain_line_first line rest unfed plain = line_first without_return line rest unfed ∙ ap (λ (l : List ℕ). l ∷ lines_of rest) (no_return line plain)
