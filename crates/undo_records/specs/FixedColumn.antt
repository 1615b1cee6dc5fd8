-- K3: a column with equal bounds was deleted.
use Rattle.std.specs.Prelude.{ℕ, ◌<◌, List, [], ◌∷◌}
use Rattle.fractions.specs.Total.{put}
use Rattle.lp_model.specs.Vectors.{Vector}
use Rattle.lp_model.specs.Sparse.{Ascends}
use Rattle.undo_records.specs.declared.kinds.fixed_column.FixedColumn.{FixedColumn}
use Rattle.undo_records.specs.Ids.{ids_of}

-- what is asked of it by itself, in a program of m rows and n columns
abbrev pub IsSound : ℕ → ℕ → FixedColumn → Type 0
IsSound m n r = (r.column < n) × Ascends 0 m r.entries

-- it can be undone among n columns
abbrev pub CanUndo : ℕ → FixedColumn → Type 0
CanUndo n r = r.column < n

-- the rows that it names
abbrev pub rows_named : FixedColumn → List ℕ
rows_named r = ids_of r.entries

-- the column that it names
abbrev pub columns_named : FixedColumn → List ℕ
columns_named r = r.column ∷ []

-- the column that it deletes
abbrev pub columns_deleted : FixedColumn → List ℕ
columns_deleted r = r.column ∷ []

-- undone: the column has its value again
abbrev pub undone : FixedColumn → Vector → Vector
undone r x = put x r.column r.value
