-- K2: a row with one entry was deleted, and the column's bounds were met with its sides over that entry.
use Rattle.std.specs.Prelude.{ℕ, List, [], ◌∷◌}
use Rattle.undo_records.specs.declared.kinds.singleton_row.SingletonRow.{SingletonRow}
use Rattle.undo_records.specs.Ids.{IsEntry}

-- what is asked of it by itself, in a program of m rows and n columns
abbrev pub IsSound : ℕ → ℕ → SingletonRow → Type 0
IsSound m n r = IsEntry m n r.row r.column r.value

-- the row that it names
abbrev pub rows_named : SingletonRow → List ℕ
rows_named r = r.row ∷ []

-- the column that it names
abbrev pub columns_named : SingletonRow → List ℕ
columns_named r = r.column ∷ []

-- the row that it deletes
abbrev pub rows_deleted : SingletonRow → List ℕ
rows_deleted r = r.row ∷ []
