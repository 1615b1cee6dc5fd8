-- What is said of the text of a program: what it gives, or its first fault.
use Rattle.std.specs.Prelude.{◌≡◌, ◌⊎◌, ℕ, List, [], ◌∷◌, ◌++◌, codes, Option, Some, None, option_map, Result, Ok, Err, slice_index_or}
use Rattle.std.specs.Fmt.{decimal}
use Rattle.file_ports.specs.Ports.{Moment}
use Rattle.lp_model.specs.ProgramData.{ProgramData}
use Rattle.lp_model.specs.Names.{names_of_columns}
use Rattle.mps_profile.specs.Faults as mps_faults
use Rattle.mps_profile.specs.Program as mps_programs
use Rattle.mps_profile.specs.Reading as mps
use Rattle.mps_profile.specs.declared.faults.MpsFaultKind.{MpsFaultKind}
use Rattle.opb_text.specs.Faults as opb_faults
use Rattle.opb_text.specs.Program as opb_programs
use Rattle.opb_text.specs.Reading as opb
use Rattle.opb_text.specs.declared.faults.OpbFaultKind.{OpbFaultKind}
use Rattle.text_lines.specs.declared.fault.Fault.{Fault}
use Rattle.endings.specs.declared.forms.Form.{Form}
use Rattle.endings.specs.declared.forms.Form.TheVariants as forms
use Rattle.endings.specs.declared.forms.ProgramFault.{ProgramFault}
use Rattle.endings.specs.declared.forms.ProgramFault.TheVariants.{Mps, Opb}
use Rattle.endings.specs.declared.forms.ProgramError.{ProgramError}
use Rattle.endings.specs.declared.forms.ProgramError.TheVariants as ended
use Rattle.endings.specs.Moments.{IsOverlong, Reads}

-- a fault with its line, of MPS and of OPB
abbrev pub mps_fault : MpsFaultKind × ℕ → ProgramFault
mps_fault at = Mps (record { kind = at.0; line = at.1 })

abbrev pub opb_fault : OpbFaultKind × ℕ → ProgramFault
opb_fault at = Opb (record { kind = at.0; line = at.1 })

-- the first fault of a text, if it has one
abbrev pub fault_in : Form → List ℕ → Option ProgramFault
fault_in (forms.Mps dialect) text = option_map mps_fault (mps.first_fault dialect text)
fault_in (forms.Opb numbers) text = option_map opb_fault (opb.first_fault text)

-- a text has no fault
abbrev pub HasNoFault : Form → List ℕ → Type 0
HasNoFault form text = fault_in form text ≡ None

-- the program of a text that has no fault
abbrev pub program_in : Form → List ℕ → ProgramData
program_in (forms.Mps dialect) text = mps_programs.program_of dialect text
program_in (forms.Opb numbers) text = opb_programs.program_of text

-- a text has no fault, and this is its program
abbrev pub IsProgramOf : Form → List ℕ → ProgramData → Type 0
IsProgramOf form text program = HasNoFault form text × (program ≡ program_in form text)

-- this is the first fault of a text
abbrev pub IsFaultOf : Form → List ℕ → ProgramFault → Type 0
IsFaultOf form text fault = fault_in form text ≡ Some fault

-- what reading a text gives: its program, or its first fault
abbrev pub IsReadAs : Form → List ℕ → Result ProgramData ProgramError → Type 0
IsReadAs form text (Ok program) = IsProgramOf form text program
IsReadAs form text (Err (ended.Fault fault)) = IsFaultOf form text fault
IsReadAs form text (Err ended.NoMemory) = Unit {0}

-- the line that names a fault of an MPS text
abbrev pub mps_fault_text : Fault MpsFaultKind → List ℕ
mps_fault_text fault = codes "error M" ++ (decimal (mps_faults.number_of_kind fault.kind) ++ (codes " line " ++ (decimal fault.line ++ 10 ∷ [])))

-- and one of an OPB text
abbrev pub opb_fault_text : Fault OpbFaultKind → List ℕ
opb_fault_text fault = codes "error O" ++ (decimal (opb_faults.number_of_kind fault.kind) ++ (codes " line " ++ (decimal fault.line ++ 10 ∷ [])))

-- the line that names a fault of a program's text
abbrev pub fault_text : ProgramFault → List ℕ
fault_text (Mps fault) = mps_fault_text fault
fault_text (Opb fault) = opb_fault_text fault

-- what is said of a program's text by this name: its first fault; or that it is longer than the limit
abbrev pub SaysFaultOf : ℕ → Form → List ℕ → List ℕ → Moment → Moment → Type 0
SaysFaultOf limit form name said before now =
    ((fault : ProgramFault) × Reads limit (before.told name) (λ text. IsFaultOf form text fault) × (said ≡ fault_text fault))
    ⊎ (IsOverlong limit name before now × (said ≡ codes "error M17" ++ 10 ∷ []))

-- the name of a column, if there is one of this id
abbrev pub column_text : ProgramData → ℕ → List ℕ
column_text program j = slice_index_or (names_of_columns program.columns) j []
