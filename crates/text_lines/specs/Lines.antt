-- The lines of a text: the parts that end with a line feed, and what follows the last line feed, where it is not empty.
use Rattle.std.specs.Prelude.{◌≡◌, ◌==◌, ℕ, false, List, [], ◌∷◌, All, reverse, if◌then◌else◌}
use Rattle.std.specs.List.{slice_split}

-- of each part that ended so much is kept; an empty part behind the last line feed is no line
abbrev pub ended : (List ℕ → List ℕ) → List (List ℕ) → List (List ℕ)
ended kept [] = []
ended kept ([] ∷ []) = []
ended kept ((b ∷ bytes) ∷ []) = (b ∷ bytes) ∷ []
ended kept (part ∷ next ∷ more) = kept part ∷ ended kept (next ∷ more)

-- the lines by what is kept of a part that ended
abbrev pub lines_by : (List ℕ → List ℕ) → List ℕ → List (List ℕ)
lines_by kept text = ended kept (slice_split (λ b. b == 10) text)

-- a carriage return at the end is left out; the bytes are given last first
abbrev pub but_return : List ℕ → List ℕ
but_return [] = []
but_return (last ∷ before) = if last == 13 then before else last ∷ before

abbrev pub without_return : List ℕ → List ℕ
without_return part = reverse (but_return (reverse part))

-- a carriage return before a line feed is left out
abbrev pub lines_of : List ℕ → List (List ℕ)
lines_of text = lines_by without_return text

-- a carriage return is a byte like others
abbrev pub raw_lines_of : List ℕ → List (List ℕ)
raw_lines_of text = lines_by (λ part. part) text

-- a text without a line feed
abbrev pub IsUnfed : List ℕ → Type 0
IsUnfed text = All (λ b. (b == 10) ≡ false) text
