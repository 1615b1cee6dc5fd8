-- K1, K5 and K6: a row was deleted that has no entries (K1) or that each point within the bounds meets (K5), or such a side of a row became infinite (K6).
use Rattle.std.specs.Prelude.{ℕ, ◌<◌, List, [], ◌∷◌}
use Rattle.undo_records.specs.declared.kinds.row_record.RowRecord.{RowRecord}

-- what is asked of it by itself, in a program of m rows
abbrev pub IsSound : ℕ → RowRecord → Type 0
IsSound m r = r.row < m

-- the row that it names
abbrev pub rows_named : RowRecord → List ℕ
rows_named r = r.row ∷ []

-- the row that K1 and K5 delete
abbrev pub rows_deleted : RowRecord → List ℕ
rows_deleted r = r.row ∷ []
