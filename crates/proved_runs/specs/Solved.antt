-- A presolve, a solve of what it left, and a postsolve of what that wrote; and two solves of the same bytes.
use Rattle.std.specs.Prelude.{◌≡◌, ℕ, true, false, List, All}
use Rattle.file_ports.specs.Ports.{Moment}
use Rattle.command_words.specs.Names.{PostsolveNames, PresolveNames, SolveNames}
use Rattle.lp_model.specs.Meaning.{meaning}
use Rattle.lp_model.specs.Names.{names_of_columns, names_of_rows}
use Rattle.lp_model.specs.ProgramData.{ProgramData}
use Rattle.lp_model.specs.Vectors.{vector_of}
use Rattle.mps_round_trip.specs.Plain.{Plain}
use Rattle.whole_way.specs.ComingBack.{IsBest}
use Rattle.whole_way.specs.Texts.{IsUnmarked}
use Rattle.solve_command.specs.Solving.{EndsSolve, IsSolved}
use Rattle.two_runs.specs.ComingBack.{IsProvedBest}
use Rattle.two_runs.specs.Runs.{AreRun, AreShort, Holds, original, point_in, Way}
use Rattle.two_runs.specs.SameAnswers.{HoldsTheSame, IsOfBytes, LeaveTheSame}

-- Solve ended at 0. It found OUT as presolve had left it, read it in the free format, and left the SOL that postsolve found.
pub record IsSolvedBetween (names : SolveNames) (way : Way) : Type 0 where
  pub printed : List ℕ
  pub found : Moment
  pub left : Moment
  pub solved : IsSolved names printed found left
  pub format : names.fixed ≡ false
  pub output_found : Holds found names.input way.output
  pub solution_left : Holds left names.solution way.solution

-- the program's names can stand in OUT and in solutions with duals
pub record CanStand (program : ProgramData) : Type 0 where
  pub plain : Plain program
  pub columns : All IsUnmarked (names_of_columns program.columns)
  pub rows : All IsUnmarked (names_of_rows program.rows)

-- What a solve wrote is brought back to a RESULT that its duals prove best; and so no feasible point of IN's program costs better. A postsolve by
-- numbers of any width reads it alike; what it is brought back to then has to be short enough to be read again.
abbrev pub SolvedComesBack : Type 0
SolvedComesBack = (first : PresolveNames) (between : SolveNames) (second : PostsolveNames) (way : Way)
    → AreRun first second way
    → IsSolvedBetween between way
    → CanStand (original first way)
    → (second.wide ≡ true → AreShort way)
    → IsProvedBest second.wide (original first way) way.result
    × IsBest (original first way).sense (meaning (original first way)) (vector_of (point_in second.wide (original first way) way.result))

-- solve of the same IN ends alike, prints the same, and where it wrote leaves the same SOL
pub record SolvesAlike (names : SolveNames) (s t : ℕ) (said more : List ℕ) (now later : Moment) : Type 0 where
  pub status : s ≡ t
  pub printed : said ≡ more
  pub solution : s ≡ 0 → LeaveTheSame now later names.solution

abbrev pub SolvesAreOne : Type 0
SolvesAreOne = (names : SolveNames) (s t : ℕ) (said more : List ℕ) (before now then later : Moment)
    → HoldsTheSame before then names.input
    → IsOfBytes s
    → IsOfBytes t
    → EndsSolve names s said before now
    → EndsSolve names t more then later
    → SolvesAlike names s t said more now later
