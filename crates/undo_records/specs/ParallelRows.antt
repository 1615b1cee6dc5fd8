-- K15: a row that is a multiple of another was deleted, and the other one's sides were met with its sides over the factor.
use Rattle.std.specs.Prelude.{◌≢◌, ℕ, List, [], ◌∷◌}
use Rattle.fractions.specs.Number.{zero_ℚ}
use Rattle.lp_model.specs.Sparse.{Ascends}
use Rattle.undo_records.specs.declared.kinds.parallel_rows.ParallelRows.{ParallelRows}
use Rattle.undo_records.specs.Ids.{AreTwo, ids_of}

-- what is asked of it by itself, in a program of m rows and n columns
abbrev pub IsSound : ℕ → ℕ → ParallelRows → Type 0
IsSound m n r = AreTwo m r.row r.kept × (r.factor ≢ zero_ℚ) × Ascends 0 n r.entries

-- the rows that it names
abbrev pub rows_named : ParallelRows → List ℕ
rows_named r = r.row ∷ r.kept ∷ []

-- the columns that it names
abbrev pub columns_named : ParallelRows → List ℕ
columns_named r = ids_of r.entries

-- the row that it deletes
abbrev pub rows_deleted : ParallelRows → List ℕ
rows_deleted r = r.row ∷ []
