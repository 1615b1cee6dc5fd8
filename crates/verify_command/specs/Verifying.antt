-- What an ending of a verification says of the files.
use Rattle.std.specs.Prelude.{◌≡◌, ◌≢◌, ◌⊎◌, ◌==◌, ℕ, List, length, option_map, Result, Ok, Err}
use Rattle.file_ports.specs.Ports.{Moment}
use Rattle.command_words.specs.Names.{VerifyNames}
use Rattle.lp_model.specs.Meaning.{meaning}
use Rattle.lp_model.specs.Optimality.{Continuous}
use Rattle.lp_model.specs.ProgramData.{ProgramData}
use Rattle.undo_records.specs.Postsolve.{Postsolve}
use Rattle.presolve_model.specs.Accounts.{ReducesPairsTo, ReducesTo}
use Rattle.walk_laws.specs.declared.flaw.Flaw.{Flaw}
use Rattle.walk_laws.specs.Flaws.{IsFirstFlaw}
use Rattle.walk_laws.specs.Walk.{Walk}
use Rattle.endings.specs.Ending.{When, no_memory_line, read_fault_line}
use Rattle.endings.specs.Moments.{FailsToRead, Finds, IsQuiet, IsThere, Reads}
use Rattle.endings.specs.ProgramTexts.{IsProgramOf, SaysFaultOf}
use Rattle.endings.specs.declared.ending.Ending.{Ending}
use Rattle.endings.specs.declared.ending.Ending.TheVariants.{Done, Violated}
use Rattle.endings.specs.declared.reads.TheConstants.{INPUT_LIMIT}
use Rattle.record_texts.specs.RecordTexts.{AreRecordsOf, SaysRecordFault}
use Rattle.record_texts.specs.declared.reading.TheConstants.{RECORDS_LIMIT}
use Rattle.verify_command.specs.Given.{input_form, output_form}
use Rattle.verify_command.specs.VerdictText.{flaw_text, yes_text}
use Rattle.verify_command.specs.declared.given.Found.{Found}
use Rattle.verify_command.specs.declared.refusal.Refusal.{Refusal}
use Rattle.verify_command.specs.declared.refusal.Refusal.TheVariants.{Program, Records, NoMemory}

-- what reads found of IN, OUT and REC
pub record AreFound (names : VerifyNames) (found : Found) (before now : Moment) : Type 0 where
  pub input : Finds INPUT_LIMIT names.input before now (option_map (λ text. text.items) found.input)
  pub output : Finds INPUT_LIMIT names.output before now (option_map (λ text. text.items) found.output)
  pub records : Finds RECORDS_LIMIT names.records before now (option_map (λ text. text.items) found.records)

-- IN has no fault, and this is its program
abbrev pub IsProgramIn : VerifyNames → Moment → ProgramData → Type 0
IsProgramIn names before program = Reads INPUT_LIMIT (before.told names.input) (λ text. IsProgramOf (input_form names) text program)

-- OUT has no fault, and this is its program
abbrev pub IsReducedIn : VerifyNames → Moment → ProgramData → Type 0
IsReducedIn names before reduced = Reads INPUT_LIMIT (before.told names.output) (λ text. IsProgramOf output_form text reduced)

-- the three texts have no fault, and give these
pub record AreGiven (names : VerifyNames) (before : Moment) (program reduced : ProgramData) (told : Postsolve) : Type 0 where
  pub input : IsProgramIn names before program
  pub output : IsReducedIn names before reduced
  pub records : Reads RECORDS_LIMIT (before.told names.records) (λ text. AreRecordsOf text told)

-- The records walk from IN's program to OUT's, and their number and offset are printed. So OUT's program is one that IN's is reduced to, as
-- the records say, with duals too where no column of IN is whole or semi-continuous.
pub record IsVerified (names : VerifyNames) (printed : List ℕ) (before : Moment) : Type 0 where
  pub program : ProgramData
  pub reduced : ProgramData
  pub told : Postsolve
  pub given : AreGiven names before program reduced told
  pub walks : Walk program reduced told
  pub said : printed ≡ yes_text (length told.undos) told.offset
  pub reduces : ReducesTo program reduced told
  pub pairs : Continuous (meaning program) → ReducesPairsTo program reduced told

-- the records do not walk from IN's program to OUT's, and the first part that fails is printed
pub record IsDenied (names : VerifyNames) (printed : List ℕ) (before : Moment) : Type 0 where
  pub program : ProgramData
  pub reduced : ProgramData
  pub told : Postsolve
  pub given : AreGiven names before program reduced told
  pub flaw : Flaw
  pub fails : IsFirstFlaw program reduced told flaw
  pub said : printed ≡ flaw_text flaw

-- this is said of IN's text, or IN has no fault and this is said of OUT's
abbrev pub RefusesProgram : VerifyNames → List ℕ → Moment → Moment → Type 0
RefusesProgram names said before now = SaysFaultOf INPUT_LIMIT (input_form names) names.input said before now
    ⊎ ((program : ProgramData) × IsProgramIn names before program × SaysFaultOf INPUT_LIMIT output_form names.output said before now)

-- IN and OUT have no fault, and this is said of REC's text
abbrev pub RefusesRecords : VerifyNames → List ℕ → Moment → Moment → Type 0
RefusesRecords names said before now = (program : ProgramData) × (reduced : ProgramData) × IsProgramIn names before program × IsReducedIn names before reduced
    × SaysRecordFault names.records said before now

-- what an ending says of the three texts
abbrev pub SaysRecords : VerifyNames → Ending → Moment → Type 0
SaysRecords names (Done text) before = IsVerified names text.items before
SaysRecords names (Violated line) before = IsDenied names line.items before
SaysRecords names ending before = ⊥

-- what is made of the three texts
abbrev pub IsSaid : VerifyNames → Result Ending Refusal → Moment → Moment → Type 0
IsSaid names (Ok ending) before now = SaysRecords names ending before
IsSaid names (Err (Program line)) before now = RefusesProgram names line.items before now
IsSaid names (Err (Records line)) before now = RefusesRecords names line.items before now
IsSaid names (Err NoMemory) before now = Unit {0}

-- one of the three could not be read
abbrev pub IsUnread : VerifyNames → Moment → Moment → Type 0
IsUnread names before now = FailsToRead names.input before now ⊎ FailsToRead names.output before now ⊎ FailsToRead names.records before now

-- what a verification says at a status, with what it prints
abbrev pub SaysVerify : VerifyNames → ℕ → List ℕ → Moment → Moment → Type 0
SaysVerify names status printed before now =
    When (status == 0) (IsVerified names printed before)
    (When (status == 2) (RefusesProgram names printed before now)
    (When (status == 3) (IsUnread names before now × (printed ≡ read_fault_line))
    (When (status == 5) (printed ≡ no_memory_line)
    (When (status == 7) (RefusesRecords names printed before now)
    (When (status == 9) (IsDenied names printed before)
    ⊥)))))

-- the same; nothing that is told changes; and where the three files could be read, none is told as missing
pub record EndsVerify (names : VerifyNames) (status : ℕ) (printed : List ℕ) (before now : Moment) : Type 0 where
  pub says : SaysVerify names status printed before now
  pub quiet : IsQuiet before now
  pub read : status ≢ 3 → status ≢ 5 → IsThere (before.told names.input) × IsThere (before.told names.output) × IsThere (before.told names.records)
