-- What a program's data mean.
use Rattle.std.specs.Prelude.{ℕ, false, [], length, slice_index_or, None}
use Rattle.fractions.specs.Number.{zero_ℚ}
use Rattle.lp_model.specs.declared.program.RowDef.{RowDef}
use Rattle.lp_model.specs.declared.program.ColumnDef.{ColumnDef}
use Rattle.lp_model.specs.Sparse.{dense}
use Rattle.lp_model.specs.Gaps.{gap_of, reach_lower, reach_upper}
use Rattle.lp_model.specs.LinearProgram.{LinearProgram}
use Rattle.lp_model.specs.ProgramData.{ProgramData}

-- stand for a row and a column past the last
abbrev pub no_row : RowDef
no_row = record { name = []; lower = None; upper = None }

abbrev pub no_column : ColumnDef
no_column = record { name = []; cost = zero_ℚ; lower = None; upper = None; whole = false; semi = false; entries = [] }

abbrev pub row_at : ProgramData → ℕ → RowDef
row_at p i = slice_index_or p.rows i no_row

abbrev pub column_at : ProgramData → ℕ → ColumnDef
column_at p j = slice_index_or p.columns j no_column

-- no rows, no columns, no constant
abbrev pub no_program : LinearProgram
no_program = record { rows = 0; columns = 0; coefficient = λ i j. zero_ℚ; lower_side = λ i. None; upper_side = λ i. None; lower_bound = λ j. None; upper_bound = λ j. None; whole = λ j. false; gap = λ j. None; costs = λ j. zero_ℚ; constant = zero_ℚ }

-- a program with the rows of the data
abbrev pub with_rows : ProgramData → LinearProgram → LinearProgram
with_rows p M = record M {
  rows = length p.rows;
  lower_side = λ i. (row_at p i).lower;
  upper_side = λ i. (row_at p i).upper;
}

-- a program with the columns of the data, whose entries are the coefficients
abbrev pub with_columns : ProgramData → LinearProgram → LinearProgram
with_columns p M = record M {
  columns = length p.columns;
  coefficient = λ i j. dense (column_at p j).entries i;
  lower_bound = λ j. reach_lower (column_at p j).semi (column_at p j).lower (column_at p j).upper;
  upper_bound = λ j. reach_upper (column_at p j).semi (column_at p j).lower (column_at p j).upper;
  whole = λ j. (column_at p j).whole;
  gap = λ j. gap_of (column_at p j).semi (column_at p j).lower (column_at p j).upper;
  costs = λ j. (column_at p j).cost;
}

-- the linear program that the data show
abbrev pub meaning : ProgramData → LinearProgram
meaning p = record (with_columns p (with_rows p no_program)) { constant = p.constant }
