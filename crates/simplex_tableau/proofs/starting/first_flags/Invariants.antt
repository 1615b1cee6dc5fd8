use Rattle.std.proofs.Common.{◌≡◌, false}
use Rattle.lp_model.specs.Meaning.{meaning}
use Rattle.tableau_laws.specs.Tableaus.{start}
use Rattle.simplex_tableau.specs.Starting.{Lists}
use Rattle.simplex_tableau.proofs.starting.first_flags.Given as goal

-- those so far
abbrev pub invariant-loop-k : goal.invariant-loop-k
invariant-loop-k l = Lists false (λ k x. x ≡ (start (meaning l.program)).basic k) l.k l.flags.items
