use Rattle.std.proofs.Common.{◌≡◌, ℕ, ◌<◌}
use Rattle.fractions.specs.Number.{zero_ℚ}
use Rattle.lp_model.specs.Meaning.{meaning}
use Rattle.tableau_laws.specs.Tableaus.{start}
use Rattle.simplex_tableau.specs.Starting.{Lists, FirstFits}
use Rattle.simplex_tableau.proofs.starting.first_values.Given as goal

-- those so far, and all had room
abbrev pub invariant-loop-k : goal.invariant-loop-k
invariant-loop-k l = record {
  list : Lists zero_ℚ (λ k x. x ≡ (start (meaning l.program)).values k) l.k l.values.items;
  fits : (j : ℕ) → j < l.k → FirstFits (meaning l.program) j;
}
