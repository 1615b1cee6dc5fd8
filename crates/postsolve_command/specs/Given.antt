-- What the bytes that reads found give, by text; none where they are more than is read.
use Rattle.std.specs.Prelude.{◌≡◌, ℕ, true, false, List, [], ◌∷◌, ◌++◌, codes, Option, Some, None, Result, Ok, Err}
use Rattle.fractions.specs.Number.{Number}
use Rattle.lp_model.specs.ProgramData.{ProgramData}
use Rattle.exact_texts.specs.Texts.{Reading}
use Rattle.point_text.specs.declared.pairs.PairOf.{PairOf}
use Rattle.text_lines.specs.declared.fault.Fault.{Fault}
use Rattle.point_text.specs.declared.faults.SolFaultKind.{SolFaultKind}
use Rattle.record_reader.specs.Matching.{Matches}
use Rattle.undo_records.specs.Postsolve.{Postsolve}
use Rattle.endings.specs.declared.forms.Form.{Form}
use Rattle.endings.specs.declared.forms.ProgramFault.{ProgramFault}
use Rattle.endings.specs.Forms.{fractions_form}
use Rattle.endings.specs.Moments.{IfFound}
use Rattle.endings.specs.ProgramTexts.{IsFaultOf, IsProgramOf, fault_text}
use Rattle.endings.specs.SolutionTexts.{IsPairBy, fault_by, solution_fault_text}
use Rattle.record_texts.specs.declared.no_records.NoRecords.{NoRecords}
use Rattle.record_texts.specs.declared.no_records.NoRecords.TheVariants as no_records
use Rattle.postsolve_command.specs.declared.refusal.Refusal.{Refusal}
use Rattle.postsolve_command.specs.declared.refusal.Refusal.TheVariants.{Program, Records, Solution, NoMemory}

-- how OUT is read: in the free format, with fractions
abbrev pub reduced_form : Form
reduced_form = fractions_form false

abbrev pub FaultsProgram : Option (List ℕ) → List ℕ → Type 0
FaultsProgram None said = said ≡ codes "error M17" ++ 10 ∷ []
FaultsProgram (Some text) said = (fault : ProgramFault) × IsFaultOf reduced_form text fault × (said ≡ fault_text fault)

-- the program, or the line that refuses it
abbrev pub GivesProgram : Option (List ℕ) → Result ProgramData Refusal → Type 0
GivesProgram found (Ok program) = IfFound found (λ text. IsProgramOf reduced_form text program)
GivesProgram found (Err (Program line)) = FaultsProgram found line.items
GivesProgram found (Err NoMemory) = Unit {0}
GivesProgram found (Err other) = ⊥

-- why there are no records, as a refusal
abbrev pub records_refusal : NoRecords → Refusal
records_refusal (no_records.Refused line) = Records line
records_refusal no_records.NoMemory = NoMemory

-- the line that refuses records that are not those of a program
abbrev pub FaultsMatch : Postsolve → ProgramData → Refusal → Type 0
FaultsMatch records program (Records line) = (Matches records program → ⊥) × (line.items ≡ codes "error F5" ++ 10 ∷ [])
FaultsMatch records program NoMemory = Unit {0}
FaultsMatch records program other = ⊥

-- the records are those of a program, or the line that refuses them
abbrev pub Fitting : {T : Type 0} → Postsolve → ProgramData → Result T Refusal → Type 0
Fitting records program (Ok done) = Matches records program
Fitting records program (Err refusal) = FaultsMatch records program refusal

abbrev pub FaultsSolution : Reading → ProgramData → Option (List ℕ) → List ℕ → Type 0
FaultsSolution r program None said = said ≡ codes "error S6" ++ 10 ∷ []
FaultsSolution r program (Some text) said =
    (fault : Fault SolFaultKind) × (fault_by r program text ≡ Some (fault.kind, fault.line)) × (said ≡ solution_fault_text fault)

-- the line that refuses the solution
abbrev pub FaultsPair : Reading → ProgramData → Option (List ℕ) → Refusal → Type 0
FaultsPair r program found (Solution line) = FaultsSolution r program found line.items
FaultsPair r program found NoMemory = Unit {0}
FaultsPair r program found other = ⊥

-- the point and the duals, or the line that refuses the solution
abbrev pub GivesPair : {A B : Type 0} → Reading → ProgramData → Option (List ℕ) → Result (PairOf A B) Refusal → Type 0
GivesPair r program found (Ok pair) = IfFound found (λ text. IsPairBy r program text pair.point pair.duals)
GivesPair r program found (Err refusal) = FaultsPair r program found refusal

-- the records undo duals, where there are any
abbrev pub UndoesThem : Postsolve → Option (List Number) → Type 0
UndoesThem records None = Unit {0}
UndoesThem records (Some duals) = records.duals ≡ true

-- there are duals that the records don't undo
abbrev pub LeavesThem : Postsolve → Option (List Number) → Type 0
LeavesThem records None = ⊥
LeavesThem records (Some duals) = records.duals ≡ false

-- the line that refuses duals that the records don't undo
abbrev pub FaultsDuals : Postsolve → Option (List Number) → Refusal → Type 0
FaultsDuals records duals (Records line) = LeavesThem records duals × (line.items ≡ codes "error F7" ++ 10 ∷ [])
FaultsDuals records duals NoMemory = Unit {0}
FaultsDuals records duals other = ⊥

-- the records undo duals, where there are any, or the line that refuses them
abbrev pub Undoing : {T : Type 0} → Postsolve → Option (List Number) → Result T Refusal → Type 0
Undoing records duals (Ok done) = UndoesThem records duals
Undoing records duals (Err refusal) = FaultsDuals records duals refusal
