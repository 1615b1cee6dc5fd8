-- K4, K10 and K17: the bounds of a whole column were rounded inwards (K4), or a column that does no good in any row (K10) or has no entries (K17) was fixed where it costs least.
use Rattle.std.specs.Prelude.{ℕ, ◌<◌, List, [], ◌∷◌}
use Rattle.undo_records.specs.declared.kinds.column_record.ColumnRecord.{ColumnRecord}

-- what is asked of it by itself, in a program of n columns
abbrev pub IsSound : ℕ → ColumnRecord → Type 0
IsSound n r = r.column < n

-- the column that it names
abbrev pub columns_named : ColumnRecord → List ℕ
columns_named r = r.column ∷ []
