-- The entries of a row.
use Rattle.std.specs.Prelude.{◌≡◌, ◌<◌, ℕ, ◌==◌, List, [], ◌∷◌, Option, Some, None, if◌then◌else◌}
use Rattle.fractions.specs.Number.{Number}
use Rattle.mps_stores.specs.declared.single_row.Entry.{Entry}

-- the number of the entry at a column
abbrev pub value_in : List Entry → ℕ → Option Number
value_in [] j = None
value_in (entry ∷ entries) j = if entry.column == j then Some entry.value else value_in entries j

-- each column has one entry at most
abbrev pub IsOnce : List Entry → Type 0
IsOnce [] = Unit {0}
IsOnce (entry ∷ entries) = (value_in entries entry.column ≡ None) × IsOnce entries

-- no entry has a column above `highest`
abbrev pub IsUpTo : ℕ → List Entry → Type 0
IsUpTo highest entries = (j : ℕ) → highest < j → value_in entries j ≡ None
