-- What is held of the lines that were read.
use Rattle.std.specs.Prelude.{◌≡◌, ℕ, List, ◌∷◌, Option, Some, None, Result, Ok, Err, slice_index_or, is_some, option_map}
use Rattle.fractions.specs.Number.{Number}
use Rattle.names.specs.Names.{place}
use Rattle.exact_texts.specs.Texts.{Reading}
use Rattle.mps_profile.specs.Texts.{Text}
use Rattle.point_text.specs.SolutionLines.{Line}
use Rattle.point_text.specs.Values.{value_named_by}
use Rattle.point_text.specs.Faults.{line_fault_by}
use Rattle.text_lines.specs.Lines.{lines_of}
use Rattle.point_text.specs.Reading.{fault_from_by, said_from}
use Rattle.point_text.specs.declared.faults.SolFaultKind.{SolFaultKind}
use Rattle.point_text.specs.declared.faults.SolError.{SolError}
use Rattle.point_text.specs.declared.faults.SolError.TheVariants.{Fault, NoMemory}
use Rattle.point_text.specs.declared.values.Values.{Values}

-- what is at a place, none where there is no place
abbrev pub number_at : {A : Type 0} → List (Option A) → Option ℕ → Option A
number_at numbers None = None
number_at numbers (Some k) = slice_index_or numbers k None

-- the number that is held for a name
abbrev pub held : {A : Type 0} → (A → Number) → Values A → Text → Option Number
held number values name = option_map number (number_at values.numbers.items (place name values.table))

-- a table has these names
abbrev pub IsTableOf : List Text → List Text → Type 0
IsTableOf names table = (name : Text) → is_some (place name table) ≡ is_some (place name names)

-- for each name that which the lines give to it
abbrev pub Holds : Reading → List Line → (Text → Option Number) → Type 0
Holds r lines numbers = (name : Text) → numbers name ≡ value_named_by r lines name

-- a line was taken in, or its fault is told
abbrev pub Took : {T : Type 0} → Reading → List Text → List Line → Line → Result T SolFaultKind → (Text → Option Number) → Type 0
Took r names before line (Ok done) new = (line_fault_by r names before line ≡ None) × Holds r (line ∷ before) new
Took r names before line (Err kind) new = line_fault_by r names before line ≡ Some kind

-- all lines of a text were taken in after these, or the first fault is told
abbrev pub TookAll : {T : Type 0} → Reading → List Text → List Line → List ℕ → Result T SolError → (Text → Option Number) → Type 0
TookAll r names before text (Ok done) new = (fault_from_by r names before (lines_of text) ≡ None) × Holds r (said_from before (lines_of text)) new
TookAll r names before text (Err (Fault fault)) new = fault_from_by r names before (lines_of text) ≡ Some (fault.kind, fault.line)
TookAll r names before text (Err NoMemory) new = Unit {0}
