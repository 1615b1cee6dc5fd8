use Rattle.std.proofs.Common.{◌≡◌}
use Rattle.fractions.specs.Number.{zero_ℚ}
use Rattle.lp_model.specs.Meaning.{meaning}
use Rattle.lp_model.specs.Turning.{signed}
use Rattle.simplex_laws.specs.Runs.{duals_at}
use Rattle.simplex_tableau.specs.Data.{shown}
use Rattle.simplex_tableau.specs.Starting.{Lists}
use Rattle.exact_simplex.proofs.solving.duals_of.Given as goal

-- those so far
abbrev pub invariant-loop-i : goal.invariant-loop-i
invariant-loop-i l = Lists zero_ℚ (λ i v. v ≡ signed l.program.sense (duals_at (meaning l.program) (shown l.tableau) i)) l.i l.numbers.items
