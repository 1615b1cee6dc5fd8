-- What is answered of a program.
use Rattle.std.specs.Prelude.{◌≡◌, ⊤, ℕ, List, Some, length}
use Rattle.fractions.specs.Number.{Number}
use Rattle.lp_model.specs.Vectors.{vector_of}
use Rattle.lp_model.specs.LinearProgram.{cost_at}
use Rattle.lp_model.specs.ProgramData.{ProgramData}
use Rattle.lp_model.specs.Meaning.{meaning}
use Rattle.lp_model.specs.Optimality.{Meets}
use Rattle.lp_model.specs.Verdicts.{NoPoint, Endless}
use Rattle.simplex_laws.specs.Runs.{EndsInfeasible, EndsUnbounded, EndsSpent}
use Rattle.simplex_laws.specs.Solved.{IsOptimal, IsPastAt}
use Rattle.simplex_tableau.specs.Programs.{minimized}
use Rattle.exact_simplex.specs.declared.solving.Solved.{Solved}
use Rattle.exact_simplex.specs.declared.solving.Solved.TheVariants.{Optimal, Infeasible, Unbounded, Spent, Past}

-- the run of at most N steps ends with this answer
abbrev pub IsAnswer : ProgramData → ℕ → Solved → Type 0
IsAnswer p N (Optimal pair cost k) = (y : List Number) × (pair.duals ≡ Some y) × (length pair.point ≡ length p.columns) × (length y ≡ length p.rows) × IsOptimal p.sense (meaning p) N k (vector_of pair.point) (vector_of y) cost
IsAnswer p N Infeasible = EndsInfeasible (minimized p) N
IsAnswer p N Unbounded = EndsUnbounded (minimized p) N
IsAnswer p N Spent = EndsSpent (minimized p) N
IsAnswer p N (Past k) = IsPastAt p.sense (meaning p) N k

-- what an answer says of the program is so: the pair meets the optimality conditions and has this cost, no point is feasible, costs have
-- no end. The other answers say nothing of it
abbrev pub IsTrueOf : ProgramData → Solved → Type 0
IsTrueOf p (Optimal pair cost k) = (y : List Number) × (pair.duals ≡ Some y) × Meets p.sense (meaning p) (vector_of pair.point) (vector_of y) × (cost ≡ cost_at (meaning p) (vector_of pair.point))
IsTrueOf p Infeasible = NoPoint (meaning p)
IsTrueOf p Unbounded = Endless p.sense (meaning p)
IsTrueOf p Spent = ⊤
IsTrueOf p (Past k) = ⊤
