-- A run of the simplex method, and how it ends.
use Rattle.std.proofs.Common.{inl, inr}
use Rattle.std.specs.Prelude.{◌≡◌, ◌≢◌, ◌⊎◌, ℕ, zero, suc, ◌+◌, ◌<◌, ◌≤◌, Some}
use Rattle.fractions.specs.Number.{Number, ◌*ℚ◌}
use Rattle.lp_model.specs.Vectors.{Vector}
use Rattle.lp_model.specs.LinearProgram.{LinearProgram}
use Rattle.lp_theory.specs.Crossed.{AreCrossed}
use Rattle.tableau_laws.specs.Variables.{variables, lower_end, upper_end}
use Rattle.tableau_laws.specs.Tableaus.{Tableau, start, pivoted, shifted}
use Rattle.simplex_laws.specs.Choices.{Leaves, NoneLeaves, Enters, NoneEnters, towards, downhill, direction, end_ahead, NoLimit, Stops}
use Rattle.tableau_laws.specs.Room.{StartFits, PivotFits, ShiftFits}
use Rattle.simplex_laws.specs.LimitRoom.{LimitsFit}

-- phase 1: b has to go by s to its end `bound`, and e can take it there
pub record Repair (M : LinearProgram) (t : Tableau) : Type 0 where
  pub b : ℕ
  pub e : ℕ
  pub bound : Number
  pub s : Number
  pub leaves : Leaves M t b bound s
  pub enters : Enters M t (towards t b s) e

-- phase 2: e lowers the cost, and something limits it
pub record Descent (M : LinearProgram) (t : Tableau) : Type 0 where
  pub e : ℕ
  pub repaired : NoneLeaves M t
  pub enters : Enters M t (downhill t) e
  pub limited : NoLimit M t e (direction t e) → ⊥

-- the rules ask for a step
abbrev pub Asks : LinearProgram → Tableau → Type 0
Asks M t = Repair M t ⊎ Descent M t

-- e goes to its own other end, and the basis stays
pub record Crosses (t : Tableau) (e : ℕ) (w : Number) (next : Tableau) : Type 0 where
  pub room : ShiftFits t e w
  pub is : next ≡ shifted t e w

-- b leaves at a bound, and e enters
pub record Turns (t : Tableau) (b e : ℕ) (bound : Number) (next : Tableau) : Type 0 where
  pub room : PivotFits t b e bound
  pub is : next ≡ pivoted t b e bound

-- e stops first at m: at its own end, or where m leaves
pub record Descends (M : LinearProgram) (t : Tableau) (e : ℕ) (next : Tableau) : Type 0 where
  pub room : LimitsFit M t e (direction t e)
  pub m : ℕ
  pub far : Number
  pub stops : Stops M t e (direction t e) m far
  pub next_is : ((m ≡ e) × Crosses t e (direction t e *ℚ far) next) ⊎ ((m ≢ e) × (bound : Number) × (end_ahead M t e (direction t e) m ≡ Some bound) × Turns t m e bound next)

-- the step that the rules ask for, where all its numbers have room
abbrev pub Makes : (M : LinearProgram) (t : Tableau) → Asks M t → Tableau → Type 0
Makes M t (inl r) next = Turns t r.b r.e r.bound next
Makes M t (inr r) next = Descends M t r.e next

-- t comes after k steps
abbrev pub Reaches : LinearProgram → ℕ → Tableau → Type 0
Reaches M zero t = t ≡ start M
Reaches M (suc k) t = (before : Tableau) × Reaches M k before × (asked : Asks M before) × Makes M before asked t

abbrev pub NoneCrossed : LinearProgram → Type 0
NoneCrossed M = (k : ℕ) → k < variables M → AreCrossed (lower_end M k) (upper_end M k) → ⊥

-- the run comes to t after k of at most N steps
pub record Comes (M : LinearProgram) (N k : ℕ) (t : Tableau) : Type 0 where
  pub in_order : NoneCrossed M
  pub room : StartFits M
  pub few : k ≤ N
  pub reached : Reaches M k t

-- ---- the ends of a run
-- a variable's ends are crossed, or no variable can take the one that has to leave nearer to its end
abbrev pub EndsInfeasible : LinearProgram → ℕ → Type 0
EndsInfeasible M N = ((k : ℕ) × (k < variables M) × AreCrossed (lower_end M k) (upper_end M k))
    ⊎ ((k : ℕ) × (t : Tableau) × Comes M N k t × (b : ℕ) × (bound : Number) × (s : Number) × Leaves M t b bound s × NoneEnters M t (towards t b s))

-- nothing limits the variable that lowers the cost
abbrev pub EndsUnbounded : LinearProgram → ℕ → Type 0
EndsUnbounded M N = (k : ℕ) × (t : Tableau) × Comes M N k t × NoneLeaves M t × (e : ℕ) × Enters M t (downhill t) e × NoLimit M t e (direction t e)

-- no variable has to leave, and none lowers the cost
abbrev pub EndsBest : LinearProgram → ℕ → ℕ → Tableau → Type 0
EndsBest M N k t = Comes M N k t × NoneLeaves M t × NoneEnters M t (downhill t)

-- N steps are made, and the rules ask for one more
abbrev pub EndsSpent : LinearProgram → ℕ → Type 0
EndsSpent M N = (t : Tableau) × Comes M N N t × Asks M t

-- after k steps a number has no room: at the start, or in the step that the rules ask for
abbrev pub EndsPast : LinearProgram → ℕ → ℕ → Type 0
EndsPast M N k = ((k ≡ 0) × NoneCrossed M × (StartFits M → ⊥))
    ⊎ ((t : Tableau) × Comes M N k t × (k < N) × (asked : Asks M t) × ((next : Tableau) → Makes M t asked next → ⊥))

-- the duals at t: what row i's variable costs
abbrev pub duals_at : LinearProgram → Tableau → Vector
duals_at M t i = t.prices (M.columns + i)
