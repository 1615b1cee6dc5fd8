-- A run in the sense of a program, and what is answered at its end.
use Rattle.std.specs.Prelude.{◌≡◌, ◌⊎◌, ℕ, ◌<◌}
use Rattle.fractions.specs.Number.{Number}
use Rattle.lp_model.specs.declared.program.Sense.{Sense}
use Rattle.lp_model.specs.Vectors.{Vector}
use Rattle.lp_model.specs.LinearProgram.{LinearProgram, cost_at}
use Rattle.lp_model.specs.Room.{CostFits}
use Rattle.lp_model.specs.Turning.{minimizing, signed}
use Rattle.tableau_laws.specs.Tableaus.{Tableau}
use Rattle.simplex_laws.specs.Runs.{EndsBest, EndsPast, duals_at}

-- the duals at a tableau of the program as it is minimized, in the program's own sense
abbrev pub duals_in : Sense → LinearProgram → Tableau → Vector
duals_in s M t i = signed s (duals_at M t i)

-- optimal: a point, duals and a cost, after k of at most N steps
pub record IsOptimal (s : Sense) (M : LinearProgram) (N k : ℕ) (x y : Vector) (cost : Number) : Type 0 where
  pub tableau : Tableau
  pub ends : EndsBest (minimizing s M) N k tableau
  pub point : (j : ℕ) → j < M.columns → x j ≡ tableau.values j
  pub duals : (i : ℕ) → i < M.rows → y i ≡ duals_in s M tableau i
  pub room : CostFits M tableau.values
  pub cost_is : cost ≡ cost_at M tableau.values

-- past: on the run, or the cost of the best point
abbrev pub IsPastAt : Sense → LinearProgram → ℕ → ℕ → Type 0
IsPastAt s M N k = EndsPast (minimizing s M) N k ⊎ ((t : Tableau) × EndsBest (minimizing s M) N k t × (CostFits M t.values → ⊥))
