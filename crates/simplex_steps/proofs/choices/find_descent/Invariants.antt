use Rattle.std.proofs.Common.{◌≡◌, ℕ, ◌<◌, false}
use Rattle.simplex_tableau.specs.Programs.{minimized}
use Rattle.simplex_laws.specs.Choices.{CanMove, downhill}
use Rattle.simplex_tableau.specs.Data.{shown}
use Rattle.simplex_steps.proofs.choices.find_descent.Given as goal

-- none so far
abbrev pub invariant-loop-k : goal.invariant-loop-k
invariant-loop-k l = (j : ℕ) → j < l.k → (shown l.tableau).basic j ≡ false → CanMove (minimized l.program) (shown l.tableau) j (downhill (shown l.tableau) j) → ⊥
