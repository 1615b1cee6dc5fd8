-- K14: a column with one entry was deleted, and its row's sides took up its bounds.
use Rattle.std.specs.Prelude.{◌≢◌, ℕ, ◌<◌, List, [], ◌∷◌, All}
use Rattle.fractions.specs.Number.{Number, zero_ℚ}
use Rattle.fractions.specs.Ends.{less}
use Rattle.fractions.specs.Total.{put}
use Rattle.fractions.specs.Room.{Room}
use Rattle.lp_model.specs.Vectors.{Vector}
use Rattle.lp_model.specs.Sparse.{sparse_total}
use Rattle.undo_records.specs.declared.side.RowFate.{RowFate}
use Rattle.undo_records.specs.declared.side.RowFate.TheVariants.{Kept, Dropped}
use Rattle.undo_records.specs.declared.kinds.slack_column_singleton.SlackColumnSingleton.{SlackColumnSingleton}
use Rattle.undo_records.specs.Ids.{IsEntry, AreOthers, ids_of}
use Rattle.undo_records.specs.Near.{near_within}
use Rattle.undo_records.specs.Fitting.{TermsFit, SlackFits}

-- what is asked of it by itself, in a program of m rows and n columns
abbrev pub IsSound : ℕ → ℕ → SlackColumnSingleton → Type 0
IsSound m n r = IsEntry m n r.row r.column r.value × AreOthers n r.column r.entries

-- it can be undone among n columns
abbrev pub CanUndo : ℕ → SlackColumnSingleton → Type 0
CanUndo n r = (r.column < n) × (r.value ≢ zero_ℚ) × All (λ e. e.id < n) r.entries

-- its row, where it was deleted
abbrev pub dropped : RowFate → ℕ → List ℕ
dropped Kept i = []
dropped Dropped i = i ∷ []

-- the row that it names
abbrev pub rows_named : SlackColumnSingleton → List ℕ
rows_named r = r.row ∷ []

-- the columns that it names
abbrev pub columns_named : SlackColumnSingleton → List ℕ
columns_named r = r.column ∷ ids_of r.entries

-- the row that it deletes
abbrev pub rows_deleted : SlackColumnSingleton → List ℕ
rows_deleted r = dropped r.fate r.row

-- the column that it deletes
abbrev pub columns_deleted : SlackColumnSingleton → List ℕ
columns_deleted r = r.column ∷ []

-- the number nearest to 0 within the column's bounds with which the row is within its sides
abbrev pub within_sides : SlackColumnSingleton → Vector → Number
within_sides r x = near_within r.value (less r.lower_side (sparse_total r.entries x)) (less r.upper_side (sparse_total r.entries x)) r.lower r.upper

-- undone: the row is within its sides
abbrev pub undone : SlackColumnSingleton → Vector → Vector
undone r x = put x r.column (within_sides r x)

-- what the undoing computes has room
abbrev pub UndoFits : Room → SlackColumnSingleton → Vector → Type 0
UndoFits m r x = TermsFit m zero_ℚ r.entries x × SlackFits m r.value r.lower_side r.upper_side (sparse_total r.entries x)
