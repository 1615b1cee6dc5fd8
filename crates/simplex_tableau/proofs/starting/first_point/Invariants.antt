use Rattle.std.proofs.Common.{◌≡◌}
use Rattle.fractions.specs.Number.{zero_ℚ}
use Rattle.lp_model.specs.Meaning.{meaning}
use Rattle.tableau_laws.specs.Tableaus.{start_point}
use Rattle.simplex_tableau.specs.Starting.{Lists}
use Rattle.simplex_tableau.proofs.starting.first_point.Given as goal

-- those so far
abbrev pub invariant-loop-j : goal.invariant-loop-j
invariant-loop-j l = Lists zero_ℚ (λ k x. x ≡ start_point (meaning l.program) k) l.j l.numbers.items
