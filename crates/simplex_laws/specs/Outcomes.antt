-- The ends of a run, side by side.
use Rattle.std.specs.Prelude.{ℕ}
use Rattle.lp_model.specs.LinearProgram.{LinearProgram}
use Rattle.tableau_laws.specs.Tableaus.{Tableau}
use Rattle.simplex_laws.specs.Runs.{EndsInfeasible, EndsUnbounded, EndsBest, EndsSpent, EndsPast}

-- which end it is, and after how many steps where that is said
pub data Outcome : Type 0 where
  Infeasible : Outcome
  Unbounded : Outcome
  Best : (pivots : ℕ) → Outcome
  Spent : Outcome
  Past : (pivot : ℕ) → Outcome

-- a run of at most N steps ends so
abbrev pub EndsAs : LinearProgram → ℕ → Outcome → Type 0
EndsAs M N Infeasible = EndsInfeasible M N
EndsAs M N Unbounded = EndsUnbounded M N
EndsAs M N (Best k) = (t : Tableau) × EndsBest M N k t
EndsAs M N Spent = EndsSpent M N
EndsAs M N (Past k) = EndsPast M N k
