-- What an ending of `solve` says of the files before and after it.
use Rattle.std.specs.Prelude.{◌≡◌, ◌≢◌, ◌⊎◌, ◌==◌, ℕ, List, length, All, IfSome, Some, Result, Ok, Err}
use Rattle.fractions.specs.Lowest.{Fits}
use Rattle.fractions.specs.Number.{Number}
use Rattle.file_ports.specs.Ports.{KeepsOthers, Moment, Unsettled, Written}
use Rattle.command_words.specs.Names.{SolveNames}
use Rattle.lp_model.specs.LinearProgram.{cost_at}
use Rattle.lp_model.specs.Meaning.{meaning}
use Rattle.lp_model.specs.Names.{names_of_columns, names_of_rows}
use Rattle.lp_model.specs.Optimality.{Continuous, Meets}
use Rattle.lp_model.specs.ProgramData.{ProgramData}
use Rattle.lp_model.specs.Vectors.{vector_of}
use Rattle.lp_model.specs.Verdicts.{Endless, NoPoint}
use Rattle.lp_model.specs.declared.point.Pair.{Pair}
use Rattle.point_text.specs.PairText.{pair_text}
use Rattle.simplex_laws.specs.Runs.{EndsInfeasible, EndsSpent, EndsUnbounded}
use Rattle.simplex_laws.specs.Solved.{IsOptimal, IsPastAt}
use Rattle.simplex_tableau.specs.Programs.{minimized}
use Rattle.endings.specs.Continuity.{NamesFirstNotContinuous}
use Rattle.endings.specs.Ending.{When, endless_line, infeasible_line, no_memory_line, read_fault_line, spent_line, write_fault_line}
use Rattle.endings.specs.Forms.{fractions_form}
use Rattle.endings.specs.Moments.{FailsToRead, FailsToWrite, IsQuiet, IsThere, Reads}
use Rattle.endings.specs.ProgramTexts.{IsProgramOf, SaysFaultOf}
use Rattle.endings.specs.declared.ending.Ending.{Ending}
use Rattle.endings.specs.declared.ending.Ending.TheVariants.{Infeasible, NoRoom, Refused, Spent, Unbounded}
use Rattle.endings.specs.declared.forms.Form.{Form}
use Rattle.endings.specs.declared.reads.TheConstants.{INPUT_LIMIT}
use Rattle.solve_command.specs.AnswerText.{optimal_text, past_text}
use Rattle.solve_command.specs.declared.answer.Texts.{Texts}
use Rattle.solve_command.specs.declared.refusal.Unsolved.{Unsolved}
use Rattle.solve_command.specs.declared.refusal.Unsolved.TheVariants.{Ends, NoMemory}

-- how IN is read
abbrev pub solve_form : SolveNames → Form
solve_form names = fractions_form names.fixed

-- the numbers of a pair have room
abbrev pub HasRoom : Pair → Type 0
HasRoom pair = All Fits pair.point × IfSome pair.duals (All Fits)

-- ---- of a program
-- The run of at most so many pivots ends with a best point, and these are its text with the duals that prove it and the lines of its cost
-- and its pivots. The numbers have room.
pub record IsBest (program : ProgramData) (most : ℕ) (written printed : List ℕ) : Type 0 where
  pub point : List Number
  pub duals : List Number
  pub cost : Number
  pub pivots : ℕ
  pub columns : length point ≡ length program.columns
  pub rows : length duals ≡ length program.rows
  pub point_fits : All Fits point
  pub duals_fit : All Fits duals
  pub run : IsOptimal program.sense (meaning program) most pivots (vector_of point) (vector_of duals) cost
  pub proof : Meets program.sense (meaning program) (vector_of point) (vector_of duals)
  pub cost_is : cost ≡ cost_at (meaning program) (vector_of point)
  pub text : written ≡ pair_text (names_of_columns program.columns) (names_of_rows program.rows) point (Some duals)
  pub said : printed ≡ optimal_text cost pivots

-- the run ends so, and no point is feasible
abbrev pub HasNoPoint : ProgramData → ℕ → Type 0
HasNoPoint program most = EndsInfeasible (minimized program) most × NoPoint (meaning program)

-- the run ends so, and for each number a feasible point has a better cost
abbrev pub HasNoEnd : ProgramData → ℕ → Type 0
HasNoEnd program most = EndsUnbounded (minimized program) most × Endless program.sense (meaning program)

-- a number of the run has no room, after so many pivots as the line says
abbrev pub IsPast : ProgramData → ℕ → List ℕ → Type 0
IsPast program most printed = (pivot : ℕ) × IsPastAt program.sense (meaning program) most pivot × (printed ≡ past_text pivot)

-- what an ending without a solution says of a program
abbrev pub EndsWithout : ProgramData → ℕ → Ending → Type 0
EndsWithout program most (NoRoom line) = IsPast program most line.items
EndsWithout program most Spent = EndsSpent (minimized program) most
EndsWithout program most Infeasible = HasNoPoint program most
EndsWithout program most Unbounded = HasNoEnd program most
EndsWithout program most other = ⊥

-- what is made of an answer
abbrev pub AnswersSo : ProgramData → ℕ → Result Texts Unsolved → Type 0
AnswersSo program most (Ok texts) = IsBest program most texts.written.items texts.printed.items
AnswersSo program most (Err (Ends ending)) = EndsWithout program most ending
AnswersSo program most (Err NoMemory) = Unit {0}

-- ---- of IN
-- IN has no fault, and this is its program
abbrev pub IsProgramIn : SolveNames → Moment → ProgramData → Type 0
IsProgramIn names before program = Reads INPUT_LIMIT (before.told names.input) (λ text. IsProgramOf (solve_form names) text program)

-- IN has no fault, no column of its program has to be whole or is semi-continuous, and this is so of the program
abbrev pub Of : SolveNames → Moment → (ProgramData → Type 0) → Type 0
Of names before P = (program : ProgramData) × IsProgramIn names before program × Continuous (meaning program) × P program

-- this is said of IN's text; or IN has no fault, and the line names the first column that has to be whole or is semi-continuous
abbrev pub RefusesProgram : SolveNames → List ℕ → Moment → Moment → Type 0
RefusesProgram names said before now = SaysFaultOf INPUT_LIMIT (solve_form names) names.input said before now
    ⊎ ((program : ProgramData) × IsProgramIn names before program × NamesFirstNotContinuous program said)

-- what an ending without a solution says of IN
abbrev pub SaysUnsolved : SolveNames → Ending → Moment → Moment → Type 0
SaysUnsolved names (Refused line) before now = RefusesProgram names line.items before now
SaysUnsolved names ending before now = Of names before (λ program. EndsWithout program names.pivots ending)

-- what is made of IN's text
abbrev pub IsMade : SolveNames → Result Texts Unsolved → Moment → Moment → Type 0
IsMade names (Ok texts) before now = Of names before (λ program. IsBest program names.pivots texts.written.items texts.printed.items)
IsMade names (Err (Ends ending)) before now = SaysUnsolved names ending before now
IsMade names (Err NoMemory) before now = Unit {0}

-- ---- of the files
-- SOL holds a best point of IN's program with duals that prove it; all other names tell what they told
pub record IsSolved (names : SolveNames) (printed : List ℕ) (before now : Moment) : Type 0 where
  pub text : List ℕ
  pub best : Of names before (λ program. IsBest program names.pivots text printed)
  pub text_written : Written (before.told names.solution) (now.told names.solution) text
  pub others : KeepsOthers before.told now.told names.solution

-- what would have been written was made, and its write failed: SOL is not told, or tells what it told; all other names stand
pub record IsUnwritten (names : SolveNames) (before now : Moment) : Type 0 where
  pub text : List ℕ
  pub printed : List ℕ
  pub best : Of names before (λ program. IsBest program names.pivots text printed)
  pub fails : FailsToWrite names.solution before now
  pub unsettled : Unsettled (before.told names.solution) (now.told names.solution)
  pub others : KeepsOthers before.told now.told names.solution

-- what `solve` says at a status, with what it prints
abbrev pub SaysSolve : SolveNames → ℕ → List ℕ → Moment → Moment → Type 0
SaysSolve names status printed before now =
    When (status == 0) (IsSolved names printed before now)
    (When (status == 2) (RefusesProgram names printed before now × IsQuiet before now)
    (When (status == 3) (FailsToRead names.input before now × IsQuiet before now × (printed ≡ read_fault_line))
    (When (status == 4) (IsUnwritten names before now × (printed ≡ write_fault_line))
    (When (status == 5) (IsQuiet before now × (printed ≡ no_memory_line))
    (When (status == 6) (Of names before (λ program. IsPast program names.pivots printed) × IsQuiet before now)
    (When (status == 10) (Of names before (λ program. EndsSpent (minimized program) names.pivots) × IsQuiet before now × (printed ≡ spent_line))
    (When (status == 20) (Of names before (λ program. HasNoPoint program names.pivots) × IsQuiet before now × (printed ≡ infeasible_line))
    (When (status == 22) (Of names before (λ program. HasNoEnd program names.pivots) × IsQuiet before now × (printed ≡ endless_line))
    ⊥))))))))

-- the same; and where IN could be read, it is not told as missing
pub record EndsSolve (names : SolveNames) (status : ℕ) (printed : List ℕ) (before now : Moment) : Type 0 where
  pub says : SaysSolve names status printed before now
  pub read : status ≢ 3 → status ≢ 5 → IsThere (before.told names.input)
