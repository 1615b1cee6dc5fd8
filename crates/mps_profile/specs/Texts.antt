-- Texts: lists of bytes.
use Rattle.std.specs.Prelude.{ℕ, List, []}
use Rattle.std.specs.Prelude.{slice_index_or}

abbrev pub Text : Type 0
Text = List ℕ

-- the field at a place
abbrev pub field : List Text → ℕ → Text
field fields k = slice_index_or fields k []
