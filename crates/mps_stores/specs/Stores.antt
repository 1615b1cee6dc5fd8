-- The numbers at rows and columns.
use Rattle.std.specs.Prelude.{ℕ, List, [], length, Option, slice_index_or}
use Rattle.fractions.specs.Number.{Number}
use Rattle.mps_stores.specs.declared.single_row.Entry.{Entry}
use Rattle.mps_stores.specs.declared.all_rows.RowEntries.{RowEntries}
use Rattle.mps_stores.specs.Entries.{value_in}

-- the entries of a row; a row past the end has none
abbrev pub row_in : RowEntries → ℕ → List Entry
row_in entries i = slice_index_or entries.rows.items i []

abbrev pub row_count : RowEntries → ℕ
row_count entries = length entries.rows.items

-- the number at row i and column j
abbrev pub number_in : RowEntries → ℕ → ℕ → Option Number
number_in entries i j = value_in (row_in entries i) j
