-- K12: an equation of two columns was solved for one of them; the row and that column were deleted.
use Rattle.std.specs.Prelude.{◌≢◌, ℕ, ◌<◌, List, [], ◌∷◌}
use Rattle.fractions.specs.Number.{Number, zero_ℚ, ◌-ℚ◌, ◌*ℚ◌}
use Rattle.fractions.specs.Division.{◌/ℚ◌}
use Rattle.fractions.specs.Total.{put}
use Rattle.fractions.specs.Room.{Room}
use Rattle.lp_model.specs.Vectors.{Vector}
use Rattle.undo_records.specs.declared.kinds.doubleton_equation.DoubletonEquation.{DoubletonEquation}
use Rattle.undo_records.specs.Ids.{AreTwo, IsEntry, AreOthers, ids_of}
use Rattle.undo_records.specs.Fitting.{LessFits}

-- what is asked of it by itself, in a program of m rows and n columns
abbrev pub IsSound : ℕ → ℕ → DoubletonEquation → Type 0
IsSound m n r = IsEntry m n r.row r.column r.value × AreTwo n r.column r.kept × (r.kept_value ≢ zero_ℚ) × AreOthers m r.row r.entries

-- it can be undone among n columns
abbrev pub CanUndo : ℕ → DoubletonEquation → Type 0
CanUndo n r = (r.column < n) × (r.kept < n) × (r.value ≢ zero_ℚ)

-- the rows that it names
abbrev pub rows_named : DoubletonEquation → List ℕ
rows_named r = r.row ∷ ids_of r.entries

-- the columns that it names
abbrev pub columns_named : DoubletonEquation → List ℕ
columns_named r = r.column ∷ r.kept ∷ []

-- the row that it deletes
abbrev pub rows_deleted : DoubletonEquation → List ℕ
rows_deleted r = r.row ∷ []

-- the column that it deletes
abbrev pub columns_deleted : DoubletonEquation → List ℕ
columns_deleted r = r.column ∷ []

-- the column's number that solves the row
abbrev pub solved : DoubletonEquation → Vector → Number
solved r x = (r.equal -ℚ r.kept_value *ℚ x r.kept) /ℚ r.value

-- undone: the row is solved for the column
abbrev pub undone : DoubletonEquation → Vector → Vector
undone r x = put x r.column (solved r x)

-- what the undoing computes has room
abbrev pub UndoFits : Room → DoubletonEquation → Vector → Type 0
UndoFits m r x = LessFits m r.equal r.kept_value (x r.kept) × m.number (solved r x)
