-- What values of the code show.
use Rattle.std.specs.Prelude.{◌≡◌, ℕ, List, [], ◌∷◌, Option, Some, None}
use Rattle.std.specs.Option.{option_map}
use Rattle.record_fields.specs.Words.{words_of}
use Rattle.record_fields.specs.Lists.{pairs_of}
use Rattle.record_fields.specs.declared.words.Words.{Words}
use Rattle.record_fields.specs.declared.words.Pair.{Pair}

abbrev pub words_in : Option (List ℕ) → List (List ℕ)
words_in None = []
words_in (Some line) = words_of line

-- the words that are still to be read
abbrev pub words_left : Words → List (List ℕ)
words_left words = words_in (option_map (λ s. s.now) words.rest)

-- the next of the pairs, where there is one
abbrev pub IsNextPair : List (List ℕ) → Option Pair → List (List ℕ) → Type 0
IsNextPair before None after = pairs_of before ≡ []
IsNextPair before (Some pair) after = pairs_of before ≡ (pair.id.now, pair.value.now) ∷ pairs_of after
