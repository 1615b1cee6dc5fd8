-- What it means that a point of the reduced program comes back, and a pair.
use Rattle.std.specs.Prelude.{◌≡◌, List, length}
use Rattle.fractions.specs.Number.{Number, ◌+ℚ◌}
use Rattle.lp_model.specs.declared.program.Sense.{Sense}
use Rattle.lp_model.specs.LinearProgram.{LinearProgram, cost_at, Feasible}
use Rattle.lp_model.specs.Meaning.{meaning}
use Rattle.lp_model.specs.Optimality.{Meets}
use Rattle.lp_model.specs.ProgramData.{ProgramData}
use Rattle.lp_model.specs.Senses.{NoWorse}
use Rattle.lp_model.specs.Vectors.{Vector, vector_of}
use Rattle.undo_records.specs.Lift.{lift, placed}
use Rattle.undo_records.specs.Postsolve.{Postsolve}
use Rattle.undo_pairs.specs.LiftPair.{lift_pair}
use Rattle.undo_pairs.specs.Numbers.{started, turned_for}

-- the point is placed at the original columns, and the records are undone, last first: these are the numbers of the original columns
pub record IsUndone (told : Postsolve) (point lifted : List Number) : Type 0 where
  pub size : length lifted ≡ length told.columns
  pub is : vector_of lifted ≡ lift told.undos (vector_of (placed told.columns point))

-- The lifted point has a number for each of the program's columns, is feasible for the program, and costs the offset more there than the
-- point costs the reduced program.
pub record ComesBack (program reduced : ProgramData) (offset : Number) (point lifted : List Number) : Type 0 where
  pub size : length lifted ≡ length program.columns
  pub feasible : Feasible (meaning program) (vector_of lifted)
  pub cost : cost_at (meaning program) (vector_of lifted) ≡ cost_at (meaning reduced) (vector_of point) +ℚ offset

-- The point has a number for each of the reduced program's columns, is feasible for the reduced program, and with the offset costs no
-- worse there than x costs the program.
pub record StandsFor (program reduced : ProgramData) (offset : Number) (x : Vector) (point : List Number) : Type 0 where
  pub size : length point ≡ length reduced.columns
  pub feasible : Feasible (meaning reduced) (vector_of point)
  pub no_worse : NoWorse program.sense (cost_at (meaning reduced) (vector_of point) +ℚ offset) (cost_at (meaning program) x)

-- x is feasible, and no feasible point is better
pub record IsBest (sense : Sense) (M : LinearProgram) (x : Vector) : Type 0 where
  pub feasible : Feasible M x
  pub best : (y : Vector) → Feasible M y → NoWorse sense (cost_at M x) (cost_at M y)

-- ---- pairs
-- the pair is placed at the original rows and columns, with its reduced costs, and the records are undone in the minimizing sense, last
-- first: these are the numbers of the original columns and, in the file's sense, the duals of the original rows
pub record IsPairUndone (told : Postsolve) (reduced : ProgramData) (point duals lifted prices : List Number) : Type 0 where
  pub columns : length lifted ≡ length told.columns
  pub rows : length prices ≡ length told.rows
  pub point_is : vector_of lifted ≡ (turned_for told.sense (lift_pair told.undos (started told reduced point duals))).x
  pub duals_are : vector_of prices ≡ (turned_for told.sense (lift_pair told.undos (started told reduced point duals))).y

-- The lifted pair has a number for each of the program's columns and rows and meets the program's optimality conditions; it costs the
-- offset more there than the point costs the reduced program, and no feasible point costs better.
pub record PairComesBack (program reduced : ProgramData) (offset : Number) (point lifted prices : List Number) : Type 0 where
  pub comes_back : ComesBack program reduced offset point lifted
  pub rows : length prices ≡ length program.rows
  pub meets : Meets program.sense (meaning program) (vector_of lifted) (vector_of prices)
  pub best : IsBest program.sense (meaning program) (vector_of lifted)
