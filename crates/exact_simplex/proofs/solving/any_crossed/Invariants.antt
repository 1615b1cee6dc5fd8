use Rattle.std.proofs.Common.{ℕ, ◌<◌}
use Rattle.lp_theory.specs.Crossed.{AreCrossed}
use Rattle.tableau_laws.specs.Variables.{lower_end, upper_end}
use Rattle.simplex_tableau.specs.Programs.{minimized}
use Rattle.exact_simplex.proofs.solving.any_crossed.Given as goal

-- none so far
abbrev pub invariant-loop-k : goal.invariant-loop-k
invariant-loop-k l = (j : ℕ) → j < l.k → AreCrossed (lower_end (minimized l.program) j) (upper_end (minimized l.program) j) → ⊥
