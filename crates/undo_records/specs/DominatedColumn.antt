-- K11: a column that another one does better than was fixed at its lower bound.
use Rattle.std.specs.Prelude.{ℕ, ◌<◌, List, [], ◌∷◌}
use Rattle.undo_records.specs.declared.kinds.dominated_column.DominatedColumn.{DominatedColumn}
use Rattle.undo_records.specs.Ids.{AreTwo}

-- what is asked of it by itself, in a program of m rows and n columns
abbrev pub IsSound : ℕ → ℕ → DominatedColumn → Type 0
IsSound m n r = (r.row < m) × AreTwo n r.better r.column

-- the row that it names
abbrev pub rows_named : DominatedColumn → List ℕ
rows_named r = r.row ∷ []

-- the columns that it names
abbrev pub columns_named : DominatedColumn → List ℕ
columns_named r = r.better ∷ r.column ∷ []
