use Rattle.std.proofs.Common.{◌≡◌, ℕ, ◌<◌, true}
use Rattle.simplex_tableau.specs.Programs.{minimized}
use Rattle.simplex_laws.specs.Choices.{IsWithin}
use Rattle.simplex_tableau.specs.Data.{shown}
use Rattle.simplex_steps.proofs.choices.find_leaving.Given as goal

-- none so far
abbrev pub invariant-loop-k : goal.invariant-loop-k
invariant-loop-k l = (j : ℕ) → j < l.k → (shown l.tableau).basic j ≡ true → IsWithin (minimized l.program) (shown l.tableau) j
