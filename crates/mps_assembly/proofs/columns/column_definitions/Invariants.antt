use Rattle.std.proofs.Common.{◌≡◌, ◌≤◌, ℕ}
use Rattle.mps_profile.specs.Program.{columns_below}
use Rattle.mps_assembly.specs.Columnwise.{terms_at, cost_at}
use Rattle.mps_assembly.specs.Definitions.{definition}
use Rattle.mps_assembly.proofs.columns.column_definitions.Given as goal

-- the columns so far; the terms of the others are still there
abbrev pub invariant-loop-j : goal.invariant-loop-j
invariant-loop-j l = record {
  found : l.found.items ≡ columns_below (λ j. definition l.columns j (cost_at l.costs j) (terms_at l.fn.terms.items j)) l.j;
  left : (j : ℕ) → l.j ≤ j → terms_at l.terms.items j ≡ terms_at l.fn.terms.items j;
}
