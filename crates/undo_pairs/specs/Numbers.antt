-- The numbers of a pair by original id, as they are at the start.
use Rattle.std.specs.Prelude.{◌≡◌, ℕ, zero, suc, List, [], ◌∷◌, ◌++◌, length}
use Rattle.fractions.specs.Number.{Number}
use Rattle.lp_model.specs.declared.program.Sense.{Sense}
use Rattle.lp_model.specs.declared.program.Sense.TheVariants.{Min, Max}
use Rattle.lp_model.specs.Vectors.{Vector, vector_of}
use Rattle.lp_model.specs.LinearProgram.{LinearProgram}
use Rattle.lp_model.specs.Optimality.{reduced_cost}
use Rattle.lp_model.specs.ProgramData.{ProgramData}
use Rattle.lp_model.specs.Meaning.{meaning}
use Rattle.lp_model.specs.Reductions.{Priced}
use Rattle.lp_model.specs.Turning.{turned}
use Rattle.undo_records.specs.Lift.{placed}
use Rattle.undo_records.specs.Postsolve.{Postsolve}

-- the point and the reduced costs by column, the duals by row
pub record PairNumbers : Type 0 where
  pub point : List Number
  pub duals : List Number
  pub reduced_costs : List Number

abbrev pub priced_of : PairNumbers → Priced
priced_of p = record { x = vector_of p.point; y = vector_of p.duals; z = vector_of p.reduced_costs }

-- a dual for each of m rows, a value and a reduced cost for each of n columns
pub record IsSized (m n : ℕ) (p : PairNumbers) : Type 0 where
  pub rows : length p.duals ≡ m
  pub columns : length p.point ≡ n
  pub costs : length p.reduced_costs ≡ n

-- from the sense of the file to the minimizing one, and back: for max duals and reduced costs are negated
abbrev pub turned_for : Sense → Priced → Priced
turned_for Min p = p
turned_for Max p = turned p

-- the reduced costs of the first n columns, by id
abbrev pub reduced_costs_of : LinearProgram → Vector → ℕ → List Number
reduced_costs_of M y zero = []
reduced_costs_of M y (suc n) = reduced_costs_of M y n ++ reduced_cost M y n ∷ []

-- a point and duals of the reduced program, and its reduced costs with them, by original id; what was deleted has 0
abbrev pub placed_pair : Postsolve → ProgramData → List Number → List Number → Priced
placed_pair records program xs ys = record {
  x = vector_of (placed records.columns xs);
  y = vector_of (placed records.rows ys);
  z = vector_of (placed records.columns (reduced_costs_of (meaning program) (vector_of ys) (length program.columns)));
}

-- and that in the minimizing sense: the undoing starts there
abbrev pub started : Postsolve → ProgramData → List Number → List Number → Priced
started records program xs ys = turned_for records.sense (placed_pair records program xs ys)
