-- What a reduction of M to R keeps, where `lift` undoes it.
use Rattle.std.specs.Prelude.{◌≡◌, ℕ, ◌<◌}
use Rattle.fractions.specs.Number.{Number, ◌+ℚ◌}
use Rattle.lp_model.specs.declared.program.Sense.{Sense}
use Rattle.lp_model.specs.Vectors.{Vector}
use Rattle.lp_model.specs.LinearProgram.{LinearProgram, cost_at, Feasible}
use Rattle.lp_model.specs.Senses.{NoWorse}
use Rattle.lp_model.specs.Optimality.{reduced_cost, Meets}

-- Reduces: R's feasible points lift to feasible points of M that cost k more, and for each feasible point of M
-- there is one of R that is no worse with k
pub record Reduces (s : Sense) (M R : LinearProgram) (lift : Vector → Vector) (k : Number) : Type 0 where
  pub lifts : (x : Vector) → Feasible R x → Feasible M (lift x)
  pub costs : (x : Vector) → Feasible R x → cost_at M (lift x) ≡ cost_at R x +ℚ k
  pub keeps : (v : Vector) → Feasible M v → (x : Vector) × Feasible R x × NoWorse s (cost_at R x +ℚ k) (cost_at M v)

-- a point x, the rows' duals y, and the columns' reduced costs z as an undoing carries them
pub record Priced : Type 0 where
  pub x : Vector
  pub y : Vector
  pub z : Vector

-- z is c - yA
abbrev pub IsPriced : LinearProgram → Priced → Type 0
IsPriced M p = (j : ℕ) → j < M.columns → p.z j ≡ reduced_cost M p.y j

-- ReducesPairs: what meets the optimality conditions of R lifts to what meets those of M, with z = c - yA before and after
pub record ReducesPairs (s : Sense) (M R : LinearProgram) (lift : Priced → Priced) : Type 0 where
  pub priced : (p : Priced) → IsPriced R p → Meets s R p.x p.y → IsPriced M (lift p)
  pub meets : (p : Priced) → IsPriced R p → Meets s R p.x p.y → Meets s M (lift p).x (lift p).y
