-- What is held of the lines that were read.
use Rattle.std.specs.Prelude.{◌≡◌, ℕ, List, [], ◌∷◌, length, map, Some, None, Result, Ok, Err}
use Rattle.mps_profile.specs.Texts.{Text}
use Rattle.point_text.specs.declared.faults.SolFaultKind.{SolFaultKind}
use Rattle.point_text.specs.declared.faults.SolError.{SolError}
use Rattle.point_text.specs.declared.faults.SolError.TheVariants.{Fault, NoMemory}
use Rattle.ray_text.specs.declared.weights.Named.{Named}
use Rattle.ray_text.specs.declared.reading.Reading.{Reading}
use Rattle.ray_text.specs.RayLines.{Giving, Line, lines_said}
use Rattle.ray_text.specs.Given.{of_rows, of_columns, given}
use Rattle.ray_text.specs.Faults.{is_open, giving_fault, line_fault}
use Rattle.ray_text.specs.Reading.{fault_from, said_from}

-- the table has these names, and for each of them that which the lines give to it
pub record HoldsNamed (names : List Text) (before : List Giving) (named : Named) : Type 0 where
  pub table : named.table ≡ names
  pub weights : named.weights.items ≡ map (given before) names

-- the same of rows and columns, and whether the ray was started
pub record Holds (rows columns : List Text) (before : List Line) (reading : Reading) : Type 0 where
  pub rows_held : HoldsNamed rows (of_rows before) reading.rows
  pub columns_held : HoldsNamed columns (of_columns before) reading.columns
  pub open_held : reading.open ≡ is_open before

-- each name of rows and of columns has a place for weights
pub record HasPlaces (reading : Reading) : Type 0 where
  pub rows : length reading.rows.weights.items ≡ length reading.rows.table
  pub columns : length reading.columns.weights.items ≡ length reading.columns.table

-- the numbers of a line were taken in, or its fault is told
abbrev pub TookGiving : {T : Type 0} → List Text → List Giving → Giving → Result T SolFaultKind → Named → Type 0
TookGiving names before g (Ok done) new = (giving_fault names before g ≡ None) × HoldsNamed names (g ∷ before) new
TookGiving names before g (Err kind) new = giving_fault names before g ≡ Some kind

-- a line was taken in, or its fault is told
abbrev pub Took : {T : Type 0} → List Text → List Text → List Line → Line → Result T SolFaultKind → Reading → Type 0
Took rows columns before line (Ok done) new = (line_fault rows columns before line ≡ None) × Holds rows columns (line ∷ before) new
Took rows columns before line (Err kind) new = line_fault rows columns before line ≡ Some kind

-- all lines of a text were taken in, or the first fault is told
abbrev pub TookAll : {T : Type 0} → List Text → List Text → List ℕ → Result T SolError → Reading → Type 0
TookAll rows columns text (Ok done) new = (fault_from rows columns [] (lines_said text) ≡ None) × Holds rows columns (said_from [] (lines_said text)) new
TookAll rows columns text (Err (Fault fault)) new = fault_from rows columns [] (lines_said text) ≡ Some (fault.kind, fault.line)
TookAll rows columns text (Err NoMemory) new = Unit {0}
