-- A solution comes back by two runs.
use Rattle.std.specs.Prelude.{◌≡◌, ℕ, Bool, true, List, Some, None}
use Rattle.fractions.specs.Number.{Number, ◌+ℚ◌}
use Rattle.exact_texts.specs.Kinds.{texts_of}
use Rattle.command_words.specs.Names.{PostsolveNames, PresolveNames}
use Rattle.lp_model.specs.LinearProgram.{cost_at, Feasible}
use Rattle.lp_model.specs.Meaning.{meaning}
use Rattle.lp_model.specs.Optimality.{Meets}
use Rattle.lp_model.specs.ProgramData.{ProgramData}
use Rattle.lp_model.specs.Vectors.{vector_of}
use Rattle.endings.specs.SolutionTexts.{fault_by}
use Rattle.presolve_report.specs.Report.{report_text}
use Rattle.presolve_report.specs.declared.report.Report.{Report}
use Rattle.whole_way.specs.ComingBack.{IsBest}
use Rattle.two_runs.specs.Runs.{AreRun, AreShort, CanBeWritten, duals_in, original, point_in, reduced, Way}

-- what was printed is a report with this offset
abbrev pub PrintsOffset : List ℕ → Number → Type 0
PrintsOffset printed offset = (report : Report) × (printed ≡ report_text report) × (report.offset ≡ offset)

-- RESULT has no fault for IN's program, where its numbers may have any width or not, as SOL's. Its point is feasible there, and costs the
-- printed offset more than SOL's costs OUT's program.
pub record IsBroughtBack (first : PresolveNames) (wide : Bool) (way : Way) : Type 0 where
  pub sound : fault_by (texts_of wide).reading (original first way) way.result ≡ None
  pub feasible : Feasible (meaning (original first way)) (vector_of (point_in wide (original first way) way.result))
  pub offset : Number
  pub printed : PrintsOffset way.printed offset
  pub cost : cost_at (meaning (original first way)) (vector_of (point_in wide (original first way) way.result))
      ≡ cost_at (meaning (reduced way)) (vector_of (point_in wide (reduced way) way.solution)) +ℚ offset

-- A feasible SOL is brought back. Its numbers have any width where the postsolve was asked for it: then what they are brought back to has to be
-- short enough to be read again; else that is not asked, since it has room.
abbrev pub FeasibleComesBack : Type 0
FeasibleComesBack = (first : PresolveNames) (second : PostsolveNames) (way : Way)
    → AreRun first second way
    → CanBeWritten (original first way) (duals_in second.wide (reduced way) way.solution)
    → (second.wide ≡ true → AreShort way)
    → Feasible (meaning (reduced way)) (vector_of (point_in second.wide (reduced way) way.solution))
    → IsBroughtBack first second.wide way

-- a best SOL gives a best RESULT
abbrev pub BestComesBack : Type 0
BestComesBack = (first : PresolveNames) (second : PostsolveNames) (way : Way)
    → AreRun first second way
    → CanBeWritten (original first way) (duals_in second.wide (reduced way) way.solution)
    → (second.wide ≡ true → AreShort way)
    → IsBest (reduced way).sense (meaning (reduced way)) (vector_of (point_in second.wide (reduced way) way.solution))
    → IsBest (original first way).sense (meaning (original first way)) (vector_of (point_in second.wide (original first way) way.result))

-- the bytes of a solution give a program a point and duals that meet its optimality conditions: so the point is proved best
pub record IsProvedBest (wide : Bool) (program : ProgramData) (bytes : List ℕ) : Type 0 where
  pub duals : List Number
  pub given : duals_in wide program bytes ≡ Some duals
  pub meets : Meets program.sense (meaning program) (vector_of (point_in wide program bytes)) (vector_of duals)

-- a SOL that its duals prove best gives a RESULT that its duals prove best; and so no feasible point of IN's program costs better
abbrev pub ProofComesBack : Type 0
ProofComesBack = (first : PresolveNames) (second : PostsolveNames) (way : Way)
    → AreRun first second way
    → CanBeWritten (original first way) (duals_in second.wide (reduced way) way.solution)
    → (second.wide ≡ true → AreShort way)
    → IsProvedBest second.wide (reduced way) way.solution
    → IsProvedBest second.wide (original first way) way.result
    × IsBest (original first way).sense (meaning (original first way)) (vector_of (point_in second.wide (original first way) way.result))
