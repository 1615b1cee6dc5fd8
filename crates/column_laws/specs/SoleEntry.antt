-- What the rules of a column with one entry have in common: column j leaves, and its cost is put into the other columns of row i, which
-- holds its entry.
use Rattle.std.specs.Prelude.{ℕ, Bool, false, ◌&&◌, nat_eq, List, [], ◌∷◌, map, All}
use Rattle.fractions.specs.Number.{Number, neg_ℚ, ◌-ℚ◌, ◌*ℚ◌}
use Rattle.fractions.specs.Division.{◌/ℚ◌}
use Rattle.fractions.specs.Lowest.{Fits}
use Rattle.fractions.specs.FracWords.{SumFits}
use Rattle.lp_model.specs.Sparse.{dense, without}
use Rattle.lp_model.specs.declared.terms.Term.{Term}
use Rattle.problem_model.specs.declared.edit.Edit.{Edit}
use Rattle.problem_model.specs.declared.edit.Edit.TheVariants.{SetCost}
use Rattle.problem_model.specs.Problems.{cost_at, row_entries}
use Rattle.problem_model.specs.Sparse.{Sparse}
use Rattle.rule_words.specs.Entries.{has_none}

-- a column has one entry, and that is in row i
abbrev pub is_sole_at : ℕ → List Term → Bool
is_sole_at i [] = false
is_sole_at i (e ∷ es) = nat_eq e.id i && has_none es

-- the entry of column j in row i
abbrev pub entry_of : Sparse → ℕ → ℕ → Number
entry_of p j i = dense (row_entries p i) j

-- t: the cost of column j over it
abbrev pub price_of : Sparse → ℕ → ℕ → Number
price_of p j i = cost_at p j /ℚ entry_of p j i

-- the other entries of row i
abbrev pub others_of : Sparse → ℕ → ℕ → List Term
others_of p j i = without j (row_entries p i)

-- t times an entry leaves the cost of its column
abbrev pub cost_less : Sparse → Number → Term → Edit
cost_less p t e = SetCost e.id (cost_at p e.id -ℚ t *ℚ e.value)

abbrev pub costs_less : Sparse → ℕ → ℕ → List Edit
costs_less p j i = map (cost_less p (price_of p j i)) (others_of p j i)

-- the products and differences are computed, and the quotient
pub record CostComputes (p : Sparse) (t : Number) (e : Term) : Type 0 where
  pub product : Fits (t *ℚ e.value)
  pub difference : SumFits (cost_at p e.id) (neg_ℚ (t *ℚ e.value))

abbrev pub CostsCompute : Sparse → ℕ → ℕ → Type 0
CostsCompute p j i = Fits (price_of p j i) × All (CostComputes p (price_of p j i)) (others_of p j i)
