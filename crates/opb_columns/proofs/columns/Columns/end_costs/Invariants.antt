use Rattle.std.proofs.Common.{◌≡◌, ◌<◌, ℕ, length}
use Rattle.fractions.specs.Number.{of_ℤ}
use Rattle.mps_assembly.specs.Columnwise.{cost_at}
use Rattle.opb_columns.specs.Sums.{sum_in}
use Rattle.opb_columns.proofs.Ending.{Going, owed}
use Rattle.opb_columns.proofs.columns.Columns.end_costs.Given as goal

-- what each column's cost will be stays
abbrev pub invariant-loop-entry : goal.invariant-loop-entry
invariant-loop-entry l = record {
  going : Going l.fn.self l.self;
  terms : l.self.terms.items ≡ l.fn.self.terms.items;
  owes : (j : ℕ) → j < length l.fn.self.costs.items → owed (cost_at l.self.costs.items j) (of_ℤ (sum_in l.self.sums.values.items j)) ≡ owed (cost_at l.fn.self.costs.items j) (of_ℤ (sum_in l.fn.self.sums.values.items j));
}

abbrev pub decreases-loop-entry : goal.decreases-loop-entry
decreases-loop-entry l = length l.self.sums.touched.items
