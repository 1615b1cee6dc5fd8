-- What can be said in the place of a best point.
use Rattle.fractions.specs.Number.{Number}
use Rattle.lp_model.specs.declared.program.Sense.{Sense}
use Rattle.lp_model.specs.Vectors.{Vector}
use Rattle.lp_model.specs.LinearProgram.{LinearProgram, cost_at, Feasible}
use Rattle.lp_model.specs.Senses.{Better}

-- NoPoint: no point is feasible
abbrev pub NoPoint : LinearProgram → Type 0
NoPoint M = (x : Vector) → Feasible M x → ⊥

-- Endless: for each number K some feasible point has a cost below K (Min) or above K (Max)
abbrev pub Endless : Sense → LinearProgram → Type 0
Endless s M = (K : Number) → (x : Vector) × Feasible M x × Better s (cost_at M x) K

-- each feasible point, if there is one, gives Endless
abbrev pub NoPointOrEndless : Sense → LinearProgram → Type 0
NoPointOrEndless s M = (x : Vector) → Feasible M x → Endless s M
