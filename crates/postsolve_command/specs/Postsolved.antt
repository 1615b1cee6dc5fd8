-- What an ending of a postsolve says of the files before and after it.
use Rattle.std.specs.Prelude.{◌≡◌, true, ◌≢◌, ◌⊎◌, ◌==◌, ℕ, List, [], ◌∷◌, ◌++◌, codes, Option, option_map, Result, Ok, Err}
use Rattle.fractions.specs.Number.{Number}
use Rattle.fractions.specs.Room.{Room}
use Rattle.file_ports.specs.Ports.{Moment, Unsettled, KeepsOthers, Written}
use Rattle.command_words.specs.Names.{PostsolveNames}
use Rattle.lp_model.specs.ProgramData.{ProgramData}
use Rattle.undo_records.specs.Postsolve.{Postsolve}
use Rattle.record_reader.specs.Matching.{Matches}
use Rattle.endings.specs.Ending.{When, no_memory_line, read_fault_line, write_fault_line}
use Rattle.endings.specs.Moments.{FailsToRead, FailsToWrite, Finds, IfFound, IsQuiet, IsThere, Reads}
use Rattle.endings.specs.ProgramTexts.{IsProgramOf, SaysFaultOf}
use Rattle.endings.specs.SolutionTexts.{IsPairBy, SaysPairFaultBy}
use Rattle.exact_texts.specs.Texts.{Texts as Readable}
use Rattle.exact_texts.specs.Kinds.{room_of, texts_of}
use Rattle.endings.specs.declared.reads.TheConstants.{SOLUTION_LIMIT}
use Rattle.record_texts.specs.RecordTexts.{AreRecordsOf, SaysRecordFault}
use Rattle.record_texts.specs.declared.reading.TheConstants.{RECORDS_LIMIT}
use Rattle.postsolve_command.specs.Lifted.{AreTexts, Stops}
use Rattle.postsolve_command.specs.Given.{FaultsSolution, LeavesThem, UndoesThem, reduced_form}
use Rattle.postsolve_command.specs.declared.given.TheConstants.{PROGRAM_LIMIT}
use Rattle.postsolve_command.specs.declared.given.Found.{Found}
use Rattle.postsolve_command.specs.declared.lifted.Texts.{Texts}
use Rattle.postsolve_command.specs.declared.refusal.Refusal.{Refusal}
use Rattle.postsolve_command.specs.declared.refusal.Refusal.TheVariants.{Program, Records, Solution, Stopped, NoMemory}

-- what reads found of OUT, REC and SOL
pub record AreFound (names : PostsolveNames) (found : Found) (before now : Moment) : Type 0 where
  pub program : Finds PROGRAM_LIMIT names.program before now (option_map (λ text. text.items) found.program)
  pub records : Finds RECORDS_LIMIT names.records before now (option_map (λ text. text.items) found.records)
  pub solution : Finds SOLUTION_LIMIT names.solution before now (option_map (λ text. text.items) found.solution)

-- OUT has no fault, and this is its program
abbrev pub IsProgramIn : PostsolveNames → Moment → ProgramData → Type 0
IsProgramIn names before program = Reads PROGRAM_LIMIT (before.told names.program) (λ text. IsProgramOf reduced_form text program)

-- REC has no fault, and these are its records
abbrev pub AreRecordsIn : PostsolveNames → Moment → Postsolve → Type 0
AreRecordsIn names before records = Reads RECORDS_LIMIT (before.told names.records) (λ text. AreRecordsOf text records)

-- SOL has no fault, and this is its point for a program, with these duals, if it has duals
abbrev pub IsPairIn : PostsolveNames → Moment → ProgramData → List Number → Option (List Number) → Type 0
IsPairIn names before program point duals = Reads SOLUTION_LIMIT (before.told names.solution) (λ text. IsPairBy (texts_of names.wide).reading program text point duals)

-- OUT and REC have no fault, and the records are those of the program
pub record AreMatched (names : PostsolveNames) (before : Moment) (program : ProgramData) (records : Postsolve) : Type 0 where
  pub program_text : IsProgramIn names before program
  pub records_text : AreRecordsIn names before records
  pub matched : Matches records program

-- neither has SOL, and this is its point, with these duals, if it has duals
pub record AreRead (names : PostsolveNames) (before : Moment) (program : ProgramData) (records : Postsolve) (point : List Number) (duals : Option (List Number)) : Type 0 where
  pub matched : AreMatched names before program records
  pub pair_text : IsPairIn names before program point duals

-- so it is, and the records undo the duals
pub record AreGiven (names : PostsolveNames) (before : Moment) (program : ProgramData) (records : Postsolve) (point : List Number) (duals : Option (List Number)) : Type 0 where
  pub read : AreRead names before program records point duals
  pub undoes : UndoesThem records duals

-- the texts of what SOL's point, with its duals, is brought back to
pub record AreLifted (names : PostsolveNames) (result printed : List ℕ) (before : Moment) : Type 0 where
  pub program : ProgramData
  pub records : Postsolve
  pub point : List Number
  pub duals : Option (List Number)
  pub given : AreGiven names before program records point duals
  pub texts : AreTexts (room_of names.wide) (texts_of names.wide).writing records program point duals result printed

-- SOL's point, with its duals, can't be brought back, and the record at which the lift stops is named, or the column whose reduced
-- cost has no room
pub record IsStopped (names : PostsolveNames) (said : List ℕ) (before : Moment) : Type 0 where
  pub program : ProgramData
  pub records : Postsolve
  pub point : List Number
  pub duals : Option (List Number)
  pub given : AreGiven names before program records point duals
  pub stops : Stops (room_of names.wide) records program point duals said

-- this is said of OUT's text
abbrev pub RefusesProgram : PostsolveNames → List ℕ → Moment → Moment → Type 0
RefusesProgram names said before now = SaysFaultOf PROGRAM_LIMIT reduced_form names.program said before now

-- OUT has no fault, and this is said of REC's text: its fault, or that the records are not those of the program
abbrev pub RefusesTexts : PostsolveNames → List ℕ → Moment → Moment → Type 0
RefusesTexts names said before now = (program : ProgramData) × IsProgramIn names before program
    × (SaysRecordFault names.records said before now
    ⊎ ((records : Postsolve) × AreRecordsIn names before records × (Matches records program → ⊥) × (said ≡ codes "error F5" ++ 10 ∷ [])))

-- none of the three texts has a fault, and SOL has duals that the records don't undo
pub record RefusesDuals (names : PostsolveNames) (said : List ℕ) (before : Moment) : Type 0 where
  pub program : ProgramData
  pub records : Postsolve
  pub point : List Number
  pub duals : Option (List Number)
  pub read : AreRead names before program records point duals
  pub leaves : LeavesThem records duals
  pub says : said ≡ codes "error F7" ++ 10 ∷ []

-- what is said of the records
abbrev pub RefusesRecords : PostsolveNames → List ℕ → Moment → Moment → Type 0
RefusesRecords names said before now = RefusesTexts names said before now ⊎ RefusesDuals names said before

-- OUT and REC have no fault and go together, and this is said of SOL's text
abbrev pub RefusesPoint : PostsolveNames → List ℕ → Moment → Moment → Type 0
RefusesPoint names said before now = (program : ProgramData) × (records : Postsolve) × AreMatched names before program records
    × SaysPairFaultBy (texts_of names.wide).reading program names.solution said before now

-- what SOL's text gives by a program and its records, in numbers with this room and these texts
pub record GivesLift (m : Room) (t : Readable) (program : ProgramData) (records : Postsolve) (found : Option (List ℕ)) (texts : Texts) : Type 0 where
  pub point : List Number
  pub duals : Option (List Number)
  pub pair_text : IfFound found (λ text. IsPairBy t.reading program text point duals)
  pub undoes : UndoesThem records duals
  pub lifts : AreTexts m t.writing records program point duals texts.result.items texts.printed.items

-- it can't be brought back; or it has duals that the records don't undo
pub record StopsLift (m : Room) (t : Readable) (program : ProgramData) (records : Postsolve) (found : Option (List ℕ)) (said : List ℕ) : Type 0 where
  pub point : List Number
  pub duals : Option (List Number)
  pub pair_text : IfFound found (λ text. IsPairBy t.reading program text point duals)
  pub undoes : UndoesThem records duals
  pub stops : Stops m records program point duals said

pub record LeavesDuals (t : Readable) (program : ProgramData) (records : Postsolve) (found : Option (List ℕ)) (said : List ℕ) : Type 0 where
  pub point : List Number
  pub duals : Option (List Number)
  pub pair_text : IfFound found (λ text. IsPairBy t.reading program text point duals)
  pub leaves : LeavesThem records duals
  pub says : said ≡ codes "error F7" ++ 10 ∷ []

-- what is made of SOL's text by a program and its records
abbrev pub BringsBack : Room → Readable → ProgramData → Postsolve → Option (List ℕ) → Result Texts Refusal → Type 0
BringsBack m t program records found (Ok texts) = GivesLift m t program records found texts
BringsBack m t program records found (Err (Solution line)) = FaultsSolution t.reading program found line.items
BringsBack m t program records found (Err (Records line)) = LeavesDuals t program records found line.items
BringsBack m t program records found (Err (Stopped line)) = StopsLift m t program records found line.items
BringsBack m t program records found (Err NoMemory) = Unit {0}
BringsBack m t program records found (Err other) = ⊥

-- what is made of the three texts
abbrev pub IsBrought : PostsolveNames → Result Texts Refusal → Moment → Moment → Type 0
IsBrought names (Ok texts) before now = AreLifted names texts.result.items texts.printed.items before
IsBrought names (Err (Program line)) before now = RefusesProgram names line.items before now
IsBrought names (Err (Records line)) before now = RefusesRecords names line.items before now
IsBrought names (Err (Solution line)) before now = RefusesPoint names line.items before now
IsBrought names (Err (Stopped line)) before now = IsStopped names line.items before
IsBrought names (Err NoMemory) before now = Unit {0}

-- RESULT holds the text of what SOL's point, with its duals, is brought back to; all other names tell what they told
pub record IsPostsolved (names : PostsolveNames) (printed : List ℕ) (before now : Moment) : Type 0 where
  pub result : List ℕ
  pub lifted : AreLifted names result printed before
  pub result_written : Written (before.told names.result) (now.told names.result) result
  pub others : KeepsOthers before.told now.told names.result

-- what would have been written was made, and its write failed: RESULT is not told, or tells what it told; all other names stand
pub record IsUnwritten (names : PostsolveNames) (before now : Moment) : Type 0 where
  pub result : List ℕ
  pub printed : List ℕ
  pub lifted : AreLifted names result printed before
  pub fails : FailsToWrite names.result before now
  pub unsettled : Unsettled (before.told names.result) (now.told names.result)
  pub others : KeepsOthers before.told now.told names.result

-- one of the three could not be read
abbrev pub IsUnread : PostsolveNames → Moment → Moment → Type 0
IsUnread names before now = FailsToRead names.program before now ⊎ FailsToRead names.records before now ⊎ FailsToRead names.solution before now

-- what a postsolve says at a status, with what it prints
abbrev pub SaysPostsolve : PostsolveNames → ℕ → List ℕ → Moment → Moment → Type 0
SaysPostsolve names status printed before now =
    When (status == 0) (IsPostsolved names printed before now)
    (When (status == 2) (RefusesProgram names printed before now × IsQuiet before now)
    (When (status == 3) (IsUnread names before now × IsQuiet before now × (printed ≡ read_fault_line))
    (When (status == 4) (IsUnwritten names before now × (printed ≡ write_fault_line))
    (When (status == 5) (IsQuiet before now × (printed ≡ no_memory_line))
    (When (status == 6) (IsStopped names printed before × IsQuiet before now)
    (When (status == 7) (RefusesRecords names printed before now × IsQuiet before now)
    (When (status == 8) (RefusesPoint names printed before now × IsQuiet before now)
    ⊥)))))))

-- the same; where the three files could be read, none is told as missing; and with numbers of any width no lift stops
pub record EndsPostsolve (names : PostsolveNames) (status : ℕ) (printed : List ℕ) (before now : Moment) : Type 0 where
  pub says : SaysPostsolve names status printed before now
  pub never_past : names.wide ≡ true → status ≢ 6
  pub read : status ≢ 3 → status ≢ 5 → IsThere (before.told names.program) × IsThere (before.told names.records) × IsThere (before.told names.solution)
