-- K9: an entry of a whole column and the one finite side of its row were brought nearer to 0 alike.
use Rattle.std.specs.Prelude.{ℕ, ◌<◌, List, [], ◌∷◌}
use Rattle.undo_records.specs.declared.kinds.coefficient_tightening.CoefficientTightening.{CoefficientTightening}

-- what is asked of it by itself, in a program of m rows and n columns
abbrev pub IsSound : ℕ → ℕ → CoefficientTightening → Type 0
IsSound m n r = (r.row < m) × (r.column < n)

-- the row that it names
abbrev pub rows_named : CoefficientTightening → List ℕ
rows_named r = r.row ∷ []

-- the column that it names
abbrev pub columns_named : CoefficientTightening → List ℕ
columns_named r = r.column ∷ []
