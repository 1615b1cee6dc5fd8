-- What a step says.
use Rattle.std.specs.Prelude.{◌≡◌, ℕ, Option, Some, None}
use Rattle.fractions.specs.Number.{Number}
use Rattle.lp_model.specs.LinearProgram.{LinearProgram}
use Rattle.tableau_laws.specs.Tableaus.{Tableau}
use Rattle.simplex_laws.specs.Choices.{Leaves, NoneLeaves, Enters, NoneEnters, towards, downhill, direction, NoLimit}
use Rattle.simplex_laws.specs.Runs.{Asks, Makes}
use Rattle.simplex_steps.specs.declared.steps.End.{End}
use Rattle.simplex_steps.specs.declared.steps.End.TheVariants.{Infeasible, Best, Unbounded}

-- the rules ask for no step at t, and this is why
abbrev pub Stands : LinearProgram → Tableau → End → Type 0
Stands M t Infeasible = (b : ℕ) × (bound : Number) × (s : Number) × Leaves M t b bound s × NoneEnters M t (towards t b s)
Stands M t Best = NoneLeaves M t × NoneEnters M t (downhill t)
Stands M t Unbounded = NoneLeaves M t × (e : ℕ) × Enters M t (downhill t) e × NoLimit M t e (direction t e)

-- the run ends at t, which stays; or the step that the rules ask for was made
abbrev pub Says : LinearProgram → Tableau → Option End → Tableau → Type 0
Says M t (Some end) next = (next ≡ t) × Stands M t end
Says M t None next = (asked : Asks M t) × Makes M t asked next

-- the rules ask for a step, and it has no room
abbrev pub IsStepPast : LinearProgram → Tableau → Type 0
IsStepPast M t = (asked : Asks M t) × ((next : Tableau) → Makes M t asked next → ⊥)

-- the run ends at t, or the rules ask for a step
abbrev pub Looks : LinearProgram → Tableau → Option End → Type 0
Looks M t (Some end) = Stands M t end
Looks M t None = Asks M t
