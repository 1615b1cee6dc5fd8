-- K8: a bound was replaced by a better one that follows from a row and its other columns' bounds.
use Rattle.std.specs.Prelude.{◌≡◌, ℕ, ◌<◌, true, List, [], ◌∷◌}
use Rattle.lp_model.specs.Sparse.{Ascends, has}
use Rattle.undo_records.specs.declared.kinds.bound_tightening.BoundTightening.{BoundTightening}
use Rattle.undo_records.specs.Ids.{ids_of}

-- what is asked of it by itself, in a program of m rows and n columns
abbrev pub IsSound : ℕ → ℕ → BoundTightening → Type 0
IsSound m n r = (r.row < m) × (r.column < n) × Ascends 0 n r.entries × (has r.column r.entries ≡ true)

-- the row that it names
abbrev pub rows_named : BoundTightening → List ℕ
rows_named r = r.row ∷ []

-- the columns that it names
abbrev pub columns_named : BoundTightening → List ℕ
columns_named r = r.column ∷ ids_of r.entries
