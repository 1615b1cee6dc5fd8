-- K7: a row that its columns meet only at one end of their bounds was deleted, and they were fixed there.
use Rattle.std.specs.Prelude.{ℕ, ◌<◌, List, [], ◌∷◌}
use Rattle.lp_model.specs.Sparse.{Ascends}
use Rattle.undo_records.specs.declared.kinds.forcing_row.ForcingRow.{ForcingRow}
use Rattle.undo_records.specs.Ids.{ids_of}

-- what is asked of it by itself, in a program of m rows and n columns
abbrev pub IsSound : ℕ → ℕ → ForcingRow → Type 0
IsSound m n r = (r.row < m) × Ascends 0 n r.entries

-- the row that it names
abbrev pub rows_named : ForcingRow → List ℕ
rows_named r = r.row ∷ []

-- the columns that it names
abbrev pub columns_named : ForcingRow → List ℕ
columns_named r = ids_of r.entries

-- the row that it deletes
abbrev pub rows_deleted : ForcingRow → List ℕ
rows_deleted r = r.row ∷ []
