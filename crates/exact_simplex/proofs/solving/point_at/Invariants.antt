use Rattle.std.proofs.Common.{◌≡◌}
use Rattle.fractions.specs.Number.{zero_ℚ}
use Rattle.simplex_tableau.specs.Data.{shown}
use Rattle.simplex_tableau.specs.Starting.{Lists}
use Rattle.exact_simplex.proofs.solving.point_at.Given as goal

-- those so far
abbrev pub invariant-loop-j : goal.invariant-loop-j
invariant-loop-j l = Lists zero_ℚ (λ j v. v ≡ (shown l.tableau).values j) l.j l.numbers.items
