use Rattle.std.proofs.Common.{◌≡◌, ◌<◌, ℕ, length}
use Rattle.mps_assembly.specs.Columnwise.{terms_at}
use Rattle.opb_columns.specs.Sums.{sum_in}
use Rattle.opb_columns.proofs.Ending.{Going, with_sum}
use Rattle.opb_columns.proofs.columns.Columns.end_row.Given as goal

-- what each column's terms will be stays
abbrev pub invariant-loop-entry : goal.invariant-loop-entry
invariant-loop-entry l = record {
  going : Going l.fn.self l.self;
  costs : l.self.costs.items ≡ l.fn.self.costs.items;
  owes : (j : ℕ) → j < length l.fn.self.terms.items → with_sum l.id (terms_at l.self.terms.items j) (sum_in l.self.sums.values.items j) ≡ with_sum l.id (terms_at l.fn.self.terms.items j) (sum_in l.fn.self.sums.values.items j);
}

abbrev pub decreases-loop-entry : goal.decreases-loop-entry
decreases-loop-entry l = length l.self.sums.touched.items
