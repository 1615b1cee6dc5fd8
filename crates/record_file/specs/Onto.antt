-- Words behind other bytes.
use Rattle.std.specs.Prelude.{ℕ, List, [], ◌∷◌, ◌++◌}

-- words behind other bytes, a space before each
abbrev pub words_onto : List ℕ → List (List ℕ) → List ℕ
words_onto bytes [] = bytes
words_onto bytes (w ∷ ws) = words_onto (bytes ++ 32 ∷ w) ws
