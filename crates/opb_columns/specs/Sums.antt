-- Sums by column.
use Rattle.std.specs.Prelude.{◌≡◌, ◌≢◌, ℕ, ℤ, pos, List, [], ◌∷◌, ◌⊎◌, slice_index_or}

-- the sum of column j; past the end it is 0
abbrev pub sum_in : List ℤ → ℕ → ℤ
sum_in sums j = slice_index_or sums j (pos 0)

-- a column is among these
abbrev pub IsIn : ℕ → List ℕ → Type 0
IsIn j [] = ⊥
IsIn j (column ∷ columns) = (column ≡ j) ⊎ IsIn j columns

-- each column whose sum is not 0 is among these
abbrev pub Covered : List ℤ → List ℕ → Type 0
Covered sums columns = (j : ℕ) → sum_in sums j ≢ pos 0 → IsIn j columns
