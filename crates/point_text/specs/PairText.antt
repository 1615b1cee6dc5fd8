-- A solution with duals, by what texts of numbers mean and by how they are written: the lines before the line of the duals are of columns, those after it of rows.
use Rattle.std.specs.Prelude.{ℕ, zero, suc, ◌+◌, Bool, false, List, [], ◌∷◌, ◌++◌, length, map, codes, Option, Some, None, option_map, if◌then◌else◌}
use Rattle.std.specs.Str.{bytes_eq}
use Rattle.fractions.specs.Number.{Number}
use Rattle.fractions.specs.declared.Numbers.TheVariants.{Fractions}
use Rattle.number_texts.specs.Read.{read_of}
use Rattle.number_texts.specs.Written.{written}
use Rattle.exact_texts.specs.Texts.{Reading, Writing}
use Rattle.text_lines.specs.Lines.{lines_of}
use Rattle.mps_profile.specs.Texts.{Text}
use Rattle.mps_profile.specs.Fields.{fields_of}
use Rattle.point_text.specs.SolutionLines.{Line, Silent}
use Rattle.point_text.specs.Values.{value_of_by}
use Rattle.point_text.specs.Reading.{fault_from_by, said_from}
use Rattle.point_text.specs.SolutionText.{solution_text_by}
use Rattle.point_text.specs.declared.faults.SolFaultKind.{SolFaultKind}

-- ---- the line of the duals
abbrev pub starts_duals : List Text → Bool
starts_duals [] = false
starts_duals (word ∷ []) = bytes_eq word (codes "=duals=")
starts_duals (word ∷ next ∷ more) = false

abbrev pub is_duals_line : Text → Bool
is_duals_line line = starts_duals (fields_of line)

-- the lines before the first such line, and those after it, if there is one
abbrev pub column_lines : List Text → List Text
column_lines [] = []
column_lines (line ∷ after) = if is_duals_line line then [] else line ∷ column_lines after

abbrev pub row_lines : List Text → Option (List Text)
row_lines [] = None
row_lines (line ∷ after) = if is_duals_line line then Some after else row_lines after

-- ---- the first fault
-- so many lines that say nothing
abbrev pub silent : ℕ → List Line
silent zero = []
silent (suc n) = Silent ∷ silent n

-- of the lines after the first n, by their numbers in the text; the first n count for nothing
abbrev pub fault_after_by : Reading → List Text → ℕ → Option (List Text) → Option (SolFaultKind × ℕ)
fault_after_by r names n None = None
fault_after_by r names n (Some lines) = fault_from_by r names (silent n) lines

abbrev pub or_else : Option (SolFaultKind × ℕ) → Option (SolFaultKind × ℕ) → Option (SolFaultKind × ℕ)
or_else None other = other
or_else (Some first) other = Some first

abbrev pub columns_fault_by : Reading → List Text → List Text → Option (SolFaultKind × ℕ)
columns_fault_by r columns lines = fault_from_by r columns [] (column_lines lines)

abbrev pub rows_fault_by : Reading → List Text → List Text → Option (SolFaultKind × ℕ)
rows_fault_by r rows lines = fault_after_by r rows (length (column_lines lines) + 1) (row_lines lines)

-- where columns and rows have these names
abbrev pub pair_fault_by : Reading → List Text → List Text → List ℕ → Option (SolFaultKind × ℕ)
pair_fault_by r columns rows text = or_else (columns_fault_by r columns (lines_of text)) (rows_fault_by r rows (lines_of text))

-- ---- the numbers
-- what the lines give to names
abbrev pub given_to_by : Reading → List Text → List Text → List Number
given_to_by r names lines = map (value_of_by r (said_from [] lines)) names

-- the value of each column, and the dual of each row if there is a line of the duals
abbrev pub pair_point_by : Reading → List Text → List ℕ → List Number
pair_point_by r columns text = given_to_by r columns (column_lines (lines_of text))

abbrev pub pair_duals_by : Reading → List Text → List ℕ → Option (List Number)
pair_duals_by r rows text = option_map (given_to_by r rows) (row_lines (lines_of text))

-- ---- the text
abbrev pub duals_line : List ℕ
duals_line = codes "=duals=" ++ 10 ∷ []

abbrev pub duals_text_by : Writing → List Text → Option (List Number) → List ℕ
duals_text_by w rows None = []
duals_text_by w rows (Some duals) = duals_line ++ solution_text_by w rows duals

-- each column with its value, and then, with duals, their line and each row with its dual
abbrev pub pair_text_by : Writing → List Text → List Text → List Number → Option (List Number) → List ℕ
pair_text_by w columns rows point duals = solution_text_by w columns point ++ duals_text_by w rows duals

-- ---- the same in a `Frac`
abbrev pub pair_fault : List Text → List Text → List ℕ → Option (SolFaultKind × ℕ)
pair_fault columns rows text = pair_fault_by (read_of Fractions) columns rows text

abbrev pub pair_point : List Text → List ℕ → List Number
pair_point columns text = pair_point_by (read_of Fractions) columns text

abbrev pub pair_duals : List Text → List ℕ → Option (List Number)
pair_duals rows text = pair_duals_by (read_of Fractions) rows text

abbrev pub pair_text : List Text → List Text → List Number → Option (List Number) → List ℕ
pair_text columns rows point duals = pair_text_by written columns rows point duals
