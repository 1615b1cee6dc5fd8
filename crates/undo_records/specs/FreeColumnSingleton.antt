-- K13: a column with one entry, whose bounds follow from its row, was deleted with the row.
use Rattle.std.specs.Prelude.{◌≢◌, ℕ, ◌<◌, List, [], ◌∷◌, All}
use Rattle.fractions.specs.Number.{Number, zero_ℚ, ◌-ℚ◌}
use Rattle.fractions.specs.Division.{◌/ℚ◌}
use Rattle.fractions.specs.Total.{put}
use Rattle.fractions.specs.Room.{Room}
use Rattle.lp_model.specs.Vectors.{Vector}
use Rattle.lp_model.specs.Sparse.{sparse_total}
use Rattle.undo_records.specs.declared.kinds.free_column_singleton.FreeColumnSingleton.{FreeColumnSingleton}
use Rattle.undo_records.specs.Ids.{IsEntry, AreOthers, ids_of}
use Rattle.undo_records.specs.Fitting.{TermsFit, OverFits}

-- what is asked of it by itself, in a program of m rows and n columns
abbrev pub IsSound : ℕ → ℕ → FreeColumnSingleton → Type 0
IsSound m n r = IsEntry m n r.row r.column r.value × AreOthers n r.column r.entries

-- it can be undone among n columns
abbrev pub CanUndo : ℕ → FreeColumnSingleton → Type 0
CanUndo n r = (r.column < n) × (r.value ≢ zero_ℚ) × All (λ e. e.id < n) r.entries

-- the row that it names
abbrev pub rows_named : FreeColumnSingleton → List ℕ
rows_named r = r.row ∷ []

-- the columns that it names
abbrev pub columns_named : FreeColumnSingleton → List ℕ
columns_named r = r.column ∷ ids_of r.entries

-- the row that it deletes
abbrev pub rows_deleted : FreeColumnSingleton → List ℕ
rows_deleted r = r.row ∷ []

-- the column that it deletes
abbrev pub columns_deleted : FreeColumnSingleton → List ℕ
columns_deleted r = r.column ∷ []

-- the column's number with which the row stands at its side
abbrev pub at_side : FreeColumnSingleton → Vector → Number
at_side r x = (r.at -ℚ sparse_total r.entries x) /ℚ r.value

-- undone: the row stands at its side
abbrev pub undone : FreeColumnSingleton → Vector → Vector
undone r x = put x r.column (at_side r x)

-- what the undoing computes has room
abbrev pub UndoFits : Room → FreeColumnSingleton → Vector → Type 0
UndoFits m r x = TermsFit m zero_ℚ r.entries x × OverFits m r.at (sparse_total r.entries x) r.value
