-- The cards of an MPS text.
use Rattle.std.specs.Prelude.{ℕ, List, [], ◌∷◌, ◌++◌}

-- words, a space before each
abbrev pub spaced : List (List ℕ) → List ℕ
spaced [] = []
spaced (w ∷ ws) = 32 ∷ (w ++ spaced ws)

-- a card: a space before each word, and a line feed at the end
abbrev pub card : List (List ℕ) → List ℕ
card ws = spaced ws ++ 10 ∷ []
