-- The program of a text without a fault.
use Rattle.std.specs.Prelude.{ℕ, ℤ, zero, suc, true, false, List, [], ◌∷◌, ◌++◌, length, Some, None, codes}
use Rattle.std.specs.Fmt.{decimal}
use Rattle.fractions.specs.Number.{of_ℤ, zero_ℚ, one_ℚ}
use Rattle.lp_model.specs.declared.program.Sense.TheVariants.{Min}
use Rattle.lp_model.specs.declared.program.ColumnDef.{ColumnDef}
use Rattle.lp_model.specs.declared.terms.Term.{Term}
use Rattle.lp_model.specs.ProgramData.{ProgramData}
use Rattle.mps_profile.specs.Texts.{field}
use Rattle.mps_profile.specs.Program.{rows_below, terms_below, columns_below}
use Rattle.opb_text.specs.Words.{Text}
use Rattle.opb_text.specs.Tokens.{Token}
use Rattle.opb_text.specs.Statements.{open_row, row_kinds}
use Rattle.opb_text.specs.Columns.{column_names, coefficient, right_side, constant}
use Rattle.opb_text.specs.Reading.{tokens_of}

-- the objective and the constraints before row n: obj, c1, c2, ..
abbrev pub constraint_name : ℕ → Text
constraint_name i = 99 ∷ decimal i

abbrev pub row_names : ℕ → List Text
row_names zero = []
row_names (suc zero) = codes "obj" ∷ []
row_names (suc (suc i)) = row_names (suc i) ++ constraint_name (suc i) ∷ []

-- a column that is whole and lies between 0 and 1
abbrev pub binary_column : Text → ℤ → List Term → ColumnDef
binary_column name cost entries = record { name = name; cost = of_ℤ cost; lower = Some zero_ℚ; upper = Some one_ℚ; whole = true; semi = false; entries = entries }

-- column j, with its costs and its terms in the rows
abbrev pub column_def : List Token → ℕ → ColumnDef
column_def tokens j =
    let name : Text = field (column_names tokens) j in
    binary_column name (coefficient tokens 0 name) (terms_below (row_kinds tokens) (λ i. of_ℤ (coefficient tokens i name)) (open_row tokens))

-- the program that the statements say
abbrev pub program_in : List Token → ProgramData
program_in tokens = record {
  sense = Min;
  objective = codes "obj";
  constant = of_ℤ (constant tokens);
  rows = rows_below (row_names (open_row tokens)) (row_kinds tokens) (λ i. of_ℤ (right_side tokens i)) (λ i. None) (open_row tokens);
  columns = columns_below (column_def tokens) (length (column_names tokens));
}

-- the program of a text; it is the text's where the text has no fault
abbrev pub program_of : List ℕ → ProgramData
program_of text = program_in (tokens_of text)
