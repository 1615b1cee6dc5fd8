-- What is made of the one entry of a column before its edits are.
use Rattle.std.specs.Prelude.{◌≡◌, ℕ}
use Rattle.problem_model.specs.Sparse.{Sparse}
use Rattle.column_laws.specs.SoleEntry.{entry_of, others_of, price_of}
use Rattle.column_rules.specs.declared.sole_entry.SoleEntry.{SoleEntry}

-- the entry of column j in row i, the cost of j over it, and the row's other entries
pub record IsSoleEntry (p : Sparse) (j i : ℕ) (e : SoleEntry) : Type 0 where
  pub value : e.value ≡ entry_of p j i
  pub price : e.price ≡ price_of p j i
  pub others : e.others ≡ others_of p j i
