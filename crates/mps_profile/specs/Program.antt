-- The program of a text without a fault.
use Rattle.std.specs.Prelude.{ℕ, zero, suc, ◌||◌, not, List, [], ◌∷◌, ◌++◌, length, take, filter, position, Option, Some, None, unwrap_or, if◌then◌else◌, slice_index_or}
use Rattle.fractions.specs.Number.{Number, neg_ℚ, zero_ℚ}
use Rattle.fractions.specs.Compare.{eq_ℚ}
use Rattle.lp_model.specs.declared.program.Sense.{Sense}
use Rattle.lp_model.specs.declared.program.Sense.TheVariants.{Min}
use Rattle.lp_model.specs.declared.program.RowDef.{RowDef}
use Rattle.lp_model.specs.declared.program.ColumnDef.{ColumnDef}
use Rattle.lp_model.specs.declared.terms.Term.{Term}
use Rattle.lp_model.specs.ProgramData.{ProgramData}
use Rattle.mps_profile.specs.Texts.{Text, field}
use Rattle.mps_profile.specs.Cards.{Card}
use Rattle.mps_profile.specs.Items.{progress_of, cards_of}
use Rattle.mps_profile.specs.Reading.{lines_read}
use Rattle.mps_profile.specs.Sides.{sides_of}
use Rattle.mps_profile.specs.Rows.{row_names, row_kinds, row_kind, is_free, right_side, range_of}
use Rattle.mps_profile.specs.Columns.{column_names, coefficient, lower_bound, upper_bound, is_semi, is_whole}
use Rattle.mps_profile.specs.declared.dialect.Dialect.{Dialect}
use Rattle.mps_profile.specs.declared.row_kinds.Interval.{Interval}
use Rattle.mps_profile.specs.declared.row_kinds.RowKind.{RowKind}
use Rattle.mps_profile.specs.declared.row_kinds.RowKind.TheVariants.{Free}
use Rattle.mps_profile.specs.declared.progress.Told.{Told}
use Rattle.mps_profile.specs.declared.progress.Told as told

-- the place of the first N row
abbrev pub objective_place : List Card → ℕ
objective_place cards = unwrap_or (position is_free (row_kinds cards)) 0

-- the id of row i: the number of rows before it that aren't N rows
abbrev pub id_of : List RowKind → ℕ → ℕ
id_of kinds i = length (filter (λ kind. not (is_free kind)) (take i kinds))

abbrev pub row_id : List Card → ℕ → ℕ
row_id cards i = id_of (row_kinds cards) i

-- the type of row i
abbrev pub kind_at : List RowKind → ℕ → RowKind
kind_at kinds i = slice_index_or kinds i Free

abbrev pub row_defs_at : Text → Option (Option Number × Option Number) → List RowDef
row_defs_at name None = []
row_defs_at name (Some sides) = record { name = name; lower = sides.0; upper = sides.1 } ∷ []

-- the rows among the first n names, by their types, right sides and ranges
abbrev pub rows_below : List Text → List RowKind → (ℕ → Number) → (ℕ → Option Interval) → ℕ → List RowDef
rows_below names kinds side range zero = []
rows_below names kinds side range (suc i) = rows_below names kinds side range i ++ row_defs_at (field names i) (sides_of (kind_at kinds i) (side i) (range i))

-- the rows among the first n names of ROWS
abbrev pub row_defs : Dialect → List Card → ℕ → List RowDef
row_defs dialect cards n = rows_below (row_names cards) (row_kinds cards) (right_side dialect cards) (range_of dialect cards) n

-- the term of a number in a row with an id, where there is one
abbrev pub terms_in : RowKind → ℕ → Number → List Term
terms_in kind id value = if is_free kind || eq_ℚ value zero_ℚ then [] else record { id = id; value = value } ∷ []

-- the term of column j in row i
abbrev pub terms_at : Dialect → List Card → ℕ → ℕ → List Term
terms_at dialect cards j i = terms_in (row_kind cards i) (row_id cards i) (coefficient dialect cards j i)

-- the terms of a column's numbers in the first n rows, by ascending id
abbrev pub terms_below : List RowKind → (ℕ → Number) → ℕ → List Term
terms_below kinds number zero = []
terms_below kinds number (suc i) = terms_below kinds number i ++ terms_in (kind_at kinds i) (id_of kinds i) (number i)

-- the terms of column j in the first n rows
abbrev pub terms_of : Dialect → List Card → ℕ → ℕ → List Term
terms_of dialect cards j n = terms_below (row_kinds cards) (coefficient dialect cards j) n

abbrev pub column_def : Dialect → List Card → ℕ → ColumnDef
column_def dialect cards j = record {
  name = field (column_names cards) j;
  cost = coefficient dialect cards j (objective_place cards);
  lower = lower_bound dialect cards j;
  upper = upper_bound dialect cards j;
  whole = is_whole dialect cards j;
  semi = is_semi dialect cards j;
  entries = terms_of dialect cards j (length (row_names cards));
}

-- the first n columns
abbrev pub columns_below : (ℕ → ColumnDef) → ℕ → List ColumnDef
columns_below column zero = []
columns_below column (suc j) = columns_below column j ++ column j ∷ []

abbrev pub column_defs : Dialect → List Card → ℕ → List ColumnDef
column_defs dialect cards n = columns_below (column_def dialect cards) n

-- the least where nothing is told
abbrev pub sense_in : Told → Sense
sense_in (told.TheVariants.Sense sense) = sense
sense_in other = Min

-- the program that the cards say; the objective's right side is minus the constant
abbrev pub program_in : Dialect → Told → List Card → ProgramData
program_in dialect sense cards = record {
  sense = sense_in sense;
  objective = field (row_names cards) (objective_place cards);
  constant = neg_ℚ (right_side dialect cards (objective_place cards));
  rows = row_defs dialect cards (length (row_names cards));
  columns = column_defs dialect cards (length (column_names cards));
}

-- the program of the lines, the nearest to the end first
abbrev pub program_on : Dialect → List Text → ProgramData
program_on dialect lines = program_in dialect (progress_of dialect.format lines).sense (cards_of dialect.format lines)

-- the program of a text; it is the text's where the text has no fault
abbrev pub program_of : Dialect → List ℕ → ProgramData
program_of dialect text = program_on dialect (lines_read dialect text)
