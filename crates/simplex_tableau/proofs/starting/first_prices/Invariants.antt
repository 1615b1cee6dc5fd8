use Rattle.std.proofs.Common.{◌≡◌}
use Rattle.fractions.specs.Number.{zero_ℚ}
use Rattle.simplex_tableau.specs.Starting.{Lists, first_prices}
use Rattle.simplex_tableau.proofs.starting.first_prices.Given as goal

-- those so far
abbrev pub invariant-loop-k : goal.invariant-loop-k
invariant-loop-k l = Lists zero_ℚ (λ k x. x ≡ first_prices l.program k) l.k l.prices.items
