-- The words of a line.
use Rattle.std.specs.Prelude.{ℕ, ◌==◌, ◌||◌, not, Bool, List, [], ◌∷◌, length, slice_index, if◌then◌else◌}
use Rattle.std.specs.List.{filter, slice_split}

abbrev pub Text : Type 0
Text = List ℕ

-- a space, a tab or a carriage return
abbrev pub is_space : ℕ → Bool
is_space b = (b == 32) || (b == 9) || (b == 13)

-- a semicolon stands as if there were spaces round it
abbrev pub spaced : Text → Text
spaced [] = []
spaced (b ∷ bytes) = if b == 59 then 32 ∷ 59 ∷ 32 ∷ spaced bytes else b ∷ spaced bytes

abbrev pub is_word : Text → Bool
is_word part = not (length part == 0)

-- the parts between spaces that are not empty
abbrev pub words_of : Text → List Text
words_of line = filter is_word (slice_split is_space (spaced line))

-- a comment begins with a star
abbrev pub is_comment : Text → Bool
is_comment line = slice_index line 0 == 42

abbrev pub words_on : Text → List Text
words_on line = if is_comment line then [] else words_of line
