-- The laws of the whole way.
use Rattle.std.specs.Prelude.{◌≡◌, ℕ, true, List, length, slice_index, Option, Some, None, All}
use Rattle.fractions.specs.Number.{Number}
use Rattle.exact_texts.specs.Kinds.{wide_texts}
use Rattle.exact_texts.specs.Texts.{frac_texts, Texts}
use Rattle.lp_model.specs.LinearProgram.{Feasible}
use Rattle.lp_model.specs.Meaning.{meaning}
use Rattle.lp_model.specs.Names.{names_of_rows}
use Rattle.lp_model.specs.Optimality.{Continuous, Meets}
use Rattle.lp_model.specs.ProgramData.{ProgramData}
use Rattle.lp_model.specs.Turning.{signed}
use Rattle.lp_model.specs.Vectors.{vector_of}
use Rattle.undo_records.specs.Postsolve.{Postsolve}
use Rattle.mps_writer.specs.MpsText.{mps_text}
use Rattle.mps_round_trip.specs.Plain.{Plain}
use Rattle.record_values.specs.declared.version.TextVersion.TheVariants.{Second}
use Rattle.record_file.specs.RecordText.{record_text}
use Rattle.record_round_trip.specs.Ranges.{HasRange}
use Rattle.problem_model.specs.Edits.{offset_set}
use Rattle.problem_model.specs.Programs.{IsProblemOf}
use Rattle.problem_model.specs.Sparse.{Sparse}
use Rattle.presolve_model.specs.Accounts.{live_labels_from}
use Rattle.presolve_model.specs.Conclusions.{Concluded, TellsEndBy}
use Rattle.presolve_model.specs.declared.conclusion.End.{End}
use Rattle.presolve_model.specs.declared.conclusion.Options.{Options}
use Rattle.presolve_model.specs.Tallies.{Open, open_by}
use Rattle.presolve_model.specs.Workers.{Workers}
use Rattle.whole_way.specs.ComingBack.{ComesBack, IsBest, PairComesBack}
use Rattle.whole_way.specs.Texts.{IsProgramText, IsRecordText, IsSolutionText, IsUnmarked, PostsolveWrites, PostsolveWritesPair, PresolveWrites, TextsFit}

-- what presolve writes of its reduced program and its records is read as these
abbrev pub TextsComeBack : Type 0
TextsComeBack = (options : Options) (workers : Workers) (program reduced : ProgramData) (told : Postsolve) (ended : End)
    → Concluded options workers program reduced told ended
    → Plain program
    → HasRange told
    → TextsFit reduced told (mps_text reduced) (record_text Second told)

-- the original id of a column of the reduced program
abbrev pub original_column : Postsolve → ℕ → ℕ
original_column told j = slice_index (live_labels_from 0 told.columns) j

-- a bound of the reduced program may be tightened where the records leave it open at its column's original id
abbrev pub open_after : Postsolve → Open
open_after told j side = open_by told.undos (original_column told j) side

-- How the run ended is told of the problem of the program that is read, as it is of the problem that presolve left, if the records' offset was
-- added to the cost there, and the records count for its columns: at a fixpoint no open reduction can be applied there either, and as many are
-- enabled.
abbrev pub EndsAreToldOfTexts : Type 0
EndsAreToldOfTexts = (options : Options) (workers : Workers) (program read : ProgramData) (told : Postsolve) (ended : End) (p : Sparse)
    → Concluded options workers program read told ended
    → IsProblemOf read p
    → TellsEndBy ended options (length told.undos) (open_after told) (offset_set p (signed told.sense told.offset))

-- Presolve reduces a program, and writes the reduced program's text `out` and the text of records `undoing`. They are read as a program
-- and records. The text `solution` is read as a point that is feasible for the program that was read, and postsolve writes as `result` what
-- the records make of that point. Then `result` is read as a point that is feasible for the program that presolve began with, and costs
-- the offset more. The numbers of `solution` and `result` are read and written as those of a kind are.
abbrev pub ComesBackWhole : Texts → Type 0
ComesBackWhole t = (options : Options) (workers : Workers) (program read : ProgramData) (told : Postsolve) (point : List Number) (out undoing solution result : List ℕ)
    → PresolveWrites options workers program out undoing
    → IsProgramText out read
    → IsRecordText undoing told
    → IsSolutionText t read solution point None
    → Feasible (meaning read) (vector_of point)
    → PostsolveWrites t told point result
    → (back : List Number) × IsSolutionText t program result back None × ComesBack program read told.offset point back

-- the same of a best point: if the solution is a best point of the reduced program, the result is one of the program
abbrev pub BestComesBackWhole : Texts → Type 0
BestComesBackWhole t = (options : Options) (workers : Workers) (program read : ProgramData) (told : Postsolve) (point : List Number) (out undoing solution result : List ℕ)
    → PresolveWrites options workers program out undoing
    → IsProgramText out read
    → IsRecordText undoing told
    → IsSolutionText t read solution point None
    → IsBest read.sense (meaning read) (vector_of point)
    → PostsolveWrites t told point result
    → (back : List Number) × IsSolutionText t program result back None × IsBest program.sense (meaning program) (vector_of back)

-- The same with duals. Where presolve was asked for records that undo duals, it took only a program without whole columns; and the rows' names
-- can be written in a solution's text too. If what `solution` gives meets the optimality conditions of the program that was read, then what
-- `result` gives meets those of the program that presolve began with; and so it proves that no feasible point costs better.
abbrev pub PairsComeBackWhole : Texts → Type 0
PairsComeBackWhole t = (options : Options) (workers : Workers) (program read : ProgramData) (told : Postsolve) (point duals : List Number) (out undoing solution result : List ℕ)
    → PresolveWrites options workers program out undoing
    → (options.dual ≡ true → Continuous (meaning program))
    → All IsUnmarked (names_of_rows program.rows)
    → IsProgramText out read
    → IsRecordText undoing told
    → IsSolutionText t read solution point (Some duals)
    → Meets read.sense (meaning read) (vector_of point) (vector_of duals)
    → PostsolveWritesPair t told read point duals result
    → (back prices : List Number) × IsSolutionText t program result back (Some prices) × PairComesBack program read told.offset point back prices

-- A text of a solution that is read where its numbers have to have room in a `Frac` has no fault where they may have any width, and gives the
-- same numbers.
abbrev pub NarrowIsWide : Type 0
NarrowIsWide = (program : ProgramData) (text : List ℕ) (point : List Number) (duals : Option (List Number))
    → IsSolutionText frac_texts program text point duals
    → IsSolutionText wide_texts program text point duals
