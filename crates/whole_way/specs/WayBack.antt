-- The laws of the way back.
use Rattle.std.specs.Prelude.{◌≡◌, List}
use Rattle.fractions.specs.Number.{Number}
use Rattle.lp_model.specs.LinearProgram.{Feasible}
use Rattle.lp_model.specs.Meaning.{meaning}
use Rattle.lp_model.specs.Optimality.{Continuous, Meets}
use Rattle.lp_model.specs.ProgramData.{ProgramData}
use Rattle.lp_model.specs.Vectors.{Vector, vector_of}
use Rattle.lp_passages.specs.Renumbering.{spread}
use Rattle.undo_records.specs.declared.label.Label.{Label}
use Rattle.undo_records.specs.Lift.{placed}
use Rattle.undo_records.specs.Postsolve.{Postsolve}
use Rattle.presolve_model.specs.Accounts.{live_labels_from}
use Rattle.presolve_model.specs.Conclusions.{Concluded}
use Rattle.presolve_model.specs.declared.conclusion.End.{End}
use Rattle.presolve_model.specs.declared.conclusion.Options.{Options}
use Rattle.presolve_model.specs.Workers.{Workers}
use Rattle.whole_way.specs.ComingBack.{ComesBack, IsBest, IsPairUndone, IsUndone, PairComesBack, StandsFor}

-- numbers placed at the labels are the numbers at the ids of the live labels, in their order, and 0 at the others
abbrev pub PlacedIsSpread : Type 0
PlacedIsSpread = (labels : List Label) (numbers : List Number)
    → vector_of (placed labels numbers) ≡ spread (live_labels_from 0 labels) (vector_of numbers)

-- each feasible point of the reduced program comes back
abbrev pub PointsComeBack : Type 0
PointsComeBack = (options : Options) (workers : Workers) (program reduced : ProgramData) (told : Postsolve) (ended : End) (point lifted : List Number)
    → Concluded options workers program reduced told ended
    → Feasible (meaning reduced) (vector_of point)
    → IsUndone told point lifted
    → ComesBack program reduced told.offset point lifted

-- for each feasible point of the program there is one of the reduced program that stands for it
abbrev pub NoneIsLost : Type 0
NoneIsLost = (options : Options) (workers : Workers) (program reduced : ProgramData) (told : Postsolve) (ended : End) (x : Vector)
    → Concluded options workers program reduced told ended
    → Feasible (meaning program) x
    → (point : List Number) × StandsFor program reduced told.offset x point

-- a best point of the reduced program comes back to a best point of the program
abbrev pub BestComesBack : Type 0
BestComesBack = (options : Options) (workers : Workers) (program reduced : ProgramData) (told : Postsolve) (ended : End) (point lifted : List Number)
    → Concluded options workers program reduced told ended
    → IsBest program.sense (meaning reduced) (vector_of point)
    → IsUndone told point lifted
    → IsBest program.sense (meaning program) (vector_of lifted)

-- what meets the optimality conditions of the reduced program comes back to what meets those of the program, where that has no whole
-- and no semi-continuous column
abbrev pub PairsComeBack : Type 0
PairsComeBack = (options : Options) (workers : Workers) (program reduced : ProgramData) (told : Postsolve) (ended : End) (point duals lifted prices : List Number)
    → Concluded options workers program reduced told ended
    → Continuous (meaning program)
    → Meets program.sense (meaning reduced) (vector_of point) (vector_of duals)
    → IsPairUndone told reduced point duals lifted prices
    → PairComesBack program reduced told.offset point lifted prices
