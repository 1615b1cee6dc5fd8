-- The program that is made from a seed.
use Rattle.std.specs.Prelude.{ℕ, ◌+◌, ◌*◌, map, codes}
use Rattle.std.specs.List.{range_with_len}
use Rattle.fractions.specs.Number.{zero_ℚ, one_ℚ}
use Rattle.lp_model.specs.declared.program.Sense.TheVariants.{Min}
use Rattle.lp_model.specs.declared.program.RowDef.{RowDef}
use Rattle.lp_model.specs.ProgramData.{ProgramData}
use Rattle.lp_model.specs.Vectors.{Vector}
use Rattle.lp_gen.specs.Draws.{state_after, drawn}
use Rattle.lp_gen.specs.Columns.{column_of, coefficient_sum}
use Rattle.lp_gen.specs.Rows.{kind_of, row_with}

-- The types of the rows are drawn from the seed, then the columns from this one,
abbrev pub columns_seed : ℕ → ℕ → ℕ
columns_seed seed rows = state_after seed rows

-- and a number for each right side from this one.
abbrev pub sides_seed : ℕ → ℕ → ℕ → ℕ
sides_seed seed rows columns = state_after seed (rows + 7 * columns)

-- row i
abbrev pub row_of : ℕ → ℕ → ℕ → ℕ → RowDef
row_of seed rows columns i = row_with i (kind_of (drawn seed i 3)) (coefficient_sum (columns_seed seed rows) rows columns i) (drawn (sides_seed seed rows columns) i 5)

-- the program with so many rows and columns
abbrev pub generated : ℕ → ℕ → ℕ → ProgramData
generated seed rows columns = record {
  sense = Min;
  objective = codes "COST";
  constant = zero_ℚ;
  rows = map (row_of seed rows columns) (range_with_len 0 rows);
  columns = map (column_of (columns_seed seed rows) rows) (range_with_len 0 columns);
}

-- the point of all ones
abbrev pub ones : Vector
ones j = one_ℚ
