-- What an ending of a check says of the files.
use Rattle.std.specs.Prelude.{◌≡◌, ◌≢◌, ◌⊎◌, ◌==◌, ◌↔◌, ℕ, List, Some, None}
use Rattle.fractions.specs.Number.{Number}
use Rattle.fractions.specs.Room.{Room}
use Rattle.fractions.specs.declared.Numbers.TheVariants.{Fractions}
use Rattle.exact_texts.specs.Texts.{Reading, Writing, Texts}
use Rattle.exact_texts.specs.Kinds.{room_of, texts_of}
use Rattle.file_ports.specs.Ports.{Moment, Told}
use Rattle.command_words.specs.Names.{CheckNames}
use Rattle.lp_model.specs.ProgramData.{ProgramData}
use Rattle.lp_model.specs.Vectors.{Vector, vector_of}
use Rattle.lp_model.specs.Meaning.{meaning}
use Rattle.lp_model.specs.LinearProgram.{cost_at, Feasible}
use Rattle.lp_model.specs.Optimality.{Continuous, Meets}
use Rattle.lp_model.specs.Senses.{NoWorse}
use Rattle.lp_check.specs.Deciding.{DecidesIn}
use Rattle.lp_check.specs.DecidingPairs.{DecidesPairIn}
use Rattle.lp_check.specs.declared.verdicts.Verdict.{Verdict}
use Rattle.lp_check.specs.declared.pair_verdicts.PairVerdict.{PairVerdict}
use Rattle.endings.specs.Continuity.{NamesFirstNotContinuous}
use Rattle.endings.specs.declared.forms.Form.{Form}
use Rattle.endings.specs.Forms.{form_with}
use Rattle.endings.specs.Ending.{When, no_memory_line, read_fault_line}
use Rattle.endings.specs.Moments.{FailsToRead, IsQuiet, IsThere, Reads}
use Rattle.endings.specs.ProgramTexts.{IsProgramOf, SaysFaultOf}
use Rattle.endings.specs.declared.reads.TheConstants.{INPUT_LIMIT, SOLUTION_LIMIT}
use Rattle.endings.specs.declared.ending.Ending.{Ending}
use Rattle.endings.specs.declared.ending.Ending.TheVariants.{Done, NoRoom, Refused, SolutionRefused, Violated}
use Rattle.check_command.specs.GivenTexts.{IsSolutionOf, NeedsContinuous, SaysGivenFault}
use Rattle.check_command.specs.JudgedRay.{IsRayJudged}
use Rattle.check_command.specs.VerdictText.{status_of_verdict, verdict_text, status_of_pair_verdict, pair_verdict_text, yes_text}

-- how IN is read: with fractions
abbrev pub check_form : CheckNames → Form
check_form names = form_with names.format Fractions

-- an ending by a verdict, with its line
abbrev pub TellsVerdict : Writing → ProgramData → Verdict Number → Ending → Type 0
TellsVerdict w program verdict (Done text) = (status_of_verdict verdict ≡ 0) × (text.items ≡ verdict_text w program verdict)
TellsVerdict w program verdict (NoRoom line) = (status_of_verdict verdict ≡ 6) × (line.items ≡ verdict_text w program verdict)
TellsVerdict w program verdict (Violated line) = (status_of_verdict verdict ≡ 9) × (line.items ≡ verdict_text w program verdict)
TellsVerdict w program verdict ending = ⊥

abbrev pub TellsPairVerdict : Writing → ProgramData → PairVerdict Number → Ending → Type 0
TellsPairVerdict w program verdict (Done text) = (status_of_pair_verdict verdict ≡ 0) × (text.items ≡ pair_verdict_text w program verdict)
TellsPairVerdict w program verdict (NoRoom line) = (status_of_pair_verdict verdict ≡ 6) × (line.items ≡ pair_verdict_text w program verdict)
TellsPairVerdict w program verdict (Violated line) = (status_of_pair_verdict verdict ≡ 9) × (line.items ≡ pair_verdict_text w program verdict)
TellsPairVerdict w program verdict ending = ⊥

-- a kind of numbers has room for each number and each sum
abbrev pub HasRoomForAll : Room → Type 0
HasRoomForAll m = (p q : Number) → m.number p × m.sum p q

-- the status is 0 exactly where this is so, and 9 exactly where it is not; nothing is past
pub record IsDecided (status : ℕ) (so : Type 0) : Type 0 where
  pub yes : (status ≡ 0) ↔ so
  pub no : (status ≡ 9) ↔ (so → ⊥)
  pub never_past : status ≢ 6

-- SOL gives a point without duals, and this status and this line are those of the verdict on the point, by numbers with this room and these
-- texts; where each number has room, yes is said exactly of a feasible point
pub record IsPointJudged (m : Room) (t : Texts) (program : ProgramData) (solution : Told) (status : ℕ) (printed : List ℕ) : Type 0 where
  pub point : List Number
  pub verdict : Verdict Number
  pub given : Reads SOLUTION_LIMIT solution (λ text. IsSolutionOf t.reading program text point None)
  pub decides : DecidesIn m (meaning program) (vector_of point) verdict
  pub answers : status_of_verdict verdict ≡ status
  pub said : printed ≡ verdict_text t.writing program verdict
  pub exact : HasRoomForAll m → IsDecided status (Feasible (meaning program) (vector_of point))

-- the point and the duals meet the optimality conditions, the point's cost is printed, and no feasible point has a better one
pub record IsProvedBest (w : Writing) (program : ProgramData) (point duals : List Number) (printed : List ℕ) : Type 0 where
  pub meets : Meets program.sense (meaning program) (vector_of point) (vector_of duals)
  pub cost : printed ≡ yes_text w (cost_at (meaning program) (vector_of point))
  pub best : (other : Vector) → Feasible (meaning program) other → NoWorse program.sense (cost_at (meaning program) (vector_of point)) (cost_at (meaning program) other)

-- SOL gives a point with duals, no column of IN has to be whole or is semi-continuous, and this status and this line are those of the verdict on the point
-- with the duals; where it is yes, it is a proof; and where each number has room, yes is said exactly where they meet the conditions
pub record IsPairJudged (m : Room) (t : Texts) (program : ProgramData) (solution : Told) (status : ℕ) (printed : List ℕ) : Type 0 where
  pub point : List Number
  pub duals : List Number
  pub verdict : PairVerdict Number
  pub given : Reads SOLUTION_LIMIT solution (λ text. IsSolutionOf t.reading program text point (Some duals))
  pub continuous : Continuous (meaning program)
  pub decides : DecidesPairIn m program.sense (meaning program) (vector_of point) (vector_of duals) verdict
  pub answers : status_of_pair_verdict verdict ≡ status
  pub said : printed ≡ pair_verdict_text t.writing program verdict
  pub exact : HasRoomForAll m → IsDecided status (Meets program.sense (meaning program) (vector_of point) (vector_of duals))
  pub proves : status ≡ 0 → IsProvedBest t.writing program point duals printed

-- this status and this line are those of the verdict on what SOL gives
abbrev pub IsJudged : Room → Texts → ProgramData → Told → ℕ → List ℕ → Type 0
IsJudged m t program solution status printed = IsPointJudged m t program solution status printed ⊎ (IsPairJudged m t program solution status printed ⊎ IsRayJudged program solution status printed)

-- SOL gives duals or a ray, and this line names the first column of IN that has to be whole or is semi-continuous
pub record IsNotContinuous (r : Reading) (program : ProgramData) (solution : Told) (printed : List ℕ) : Type 0 where
  pub given : Reads SOLUTION_LIMIT solution (λ text. NeedsContinuous r program text)
  pub names : NamesFirstNotContinuous program printed

-- what an ending says of a program and what the text by this name gives
abbrev pub SaysSolution : Room → Texts → ProgramData → List ℕ → Moment → Moment → Ending → Type 0
SaysSolution m t program name before now (Done text) = IsJudged m t program (before.told name) 0 text.items
SaysSolution m t program name before now (Refused line) = IsNotContinuous t.reading program (before.told name) line.items
SaysSolution m t program name before now (NoRoom line) = IsJudged m t program (before.told name) 6 line.items
SaysSolution m t program name before now (Violated line) = IsJudged m t program (before.told name) 9 line.items
SaysSolution m t program name before now (SolutionRefused line) = SaysGivenFault t.reading program name line.items before now
SaysSolution m t program name before now ending = ⊥

-- IN has no fault, and this is its program
abbrev pub IsProgramIn : CheckNames → Moment → ProgramData → Type 0
IsProgramIn names before program = Reads INPUT_LIMIT (before.told names.input) (λ text. IsProgramOf (check_form names) text program)

-- IN has no fault, and this status and this line are those of the verdict on what SOL gives
abbrev pub IsChecked : CheckNames → ℕ → List ℕ → Moment → Type 0
IsChecked names status printed before = (program : ProgramData) × IsProgramIn names before program × IsJudged (room_of names.wide) (texts_of names.wide) program (before.told names.solution) status printed

-- this is said of IN's text, or IN has no fault and a column that has to be whole or is semi-continuous, and SOL gives duals or a ray
abbrev pub RefusesProgram : CheckNames → List ℕ → Moment → Moment → Type 0
RefusesProgram names said before now = SaysFaultOf INPUT_LIMIT (check_form names) names.input said before now
    ⊎ ((program : ProgramData) × IsProgramIn names before program × IsNotContinuous (texts_of names.wide).reading program (before.told names.solution) said)

-- IN has no fault, and this is said of SOL's text
abbrev pub RefusesSolution : CheckNames → List ℕ → Moment → Moment → Type 0
RefusesSolution names said before now = (program : ProgramData) × IsProgramIn names before program × SaysGivenFault (texts_of names.wide).reading program names.solution said before now

-- what a check says at a status, with what it prints
abbrev pub SaysCheck : CheckNames → ℕ → List ℕ → Moment → Moment → Type 0
SaysCheck names status printed before now =
    When (status == 0) (IsChecked names 0 printed before)
    (When (status == 2) (RefusesProgram names printed before now)
    (When (status == 3) ((FailsToRead names.input before now ⊎ FailsToRead names.solution before now) × (printed ≡ read_fault_line))
    (When (status == 5) (printed ≡ no_memory_line)
    (When (status == 6) (IsChecked names 6 printed before)
    (When (status == 8) (RefusesSolution names printed before now)
    (When (status == 9) (IsChecked names 9 printed before)
    ⊥))))))

-- the same; nothing that is told changes; and where both files could be read, neither is told as missing
pub record EndsCheck (names : CheckNames) (status : ℕ) (printed : List ℕ) (before now : Moment) : Type 0 where
  pub says : SaysCheck names status printed before now
  pub quiet : IsQuiet before now
  pub read : status ≢ 3 → status ≢ 5 → IsThere (before.told names.input) × IsThere (before.told names.solution)
