-- Numbers by id.
use Rattle.std.specs.Prelude.{ℕ, List, slice_index_or}
use Rattle.fractions.specs.Number.{Number, zero_ℚ}

-- a number for each id: a point has one for each column, duals have one for each row
abbrev pub Vector : Type 0
Vector = ℕ → Number

-- a list of numbers by id, 0 past the last
abbrev pub vector_of : List Number → Vector
vector_of xs k = slice_index_or xs k zero_ℚ
