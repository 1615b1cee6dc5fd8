use Rattle.std.proofs.Common.{◌≡◌, length}
use Rattle.fractions.specs.Number.{zero_ℚ}
use Rattle.lp_model.specs.Meaning.{meaning}
use Rattle.tableau_laws.specs.Variables.{joined}
use Rattle.simplex_tableau.specs.Starting.{Lists}
use Rattle.simplex_tableau.proofs.starting.first_multiples.Given as goal

-- those so far
abbrev pub invariant-loop-k : goal.invariant-loop-k
invariant-loop-k l = Lists zero_ℚ (λ k x. x ≡ joined (length l.program.columns) ((meaning l.program).coefficient l.i) (λ j. zero_ℚ) k) l.k l.numbers.items
