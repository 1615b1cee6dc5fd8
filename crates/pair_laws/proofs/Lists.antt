-- A list of terms in place of a row or a column.
use Rattle.std.proofs.Common.{◌≡◌, ℕ, List, refl, ◌∙◌}
use Rattle.std.specs.Prelude.{Option, Some, None}
use Rattle.fractions.specs.Number.{Number, ◌*ℚ◌, *ℚ_comm}
use Rattle.fractions.specs.Total.{total}
use Rattle.fractions.proofs.Totals.{total_same}
use Rattle.lp_model.specs.declared.terms.Term.{Term}
use Rattle.lp_model.specs.Vectors.{Vector}
use Rattle.lp_model.specs.Sparse.{Ascends, dense, sparse_total}
use Rattle.lp_theory.proofs.SparseSums.{sparse-dense}
use Rattle.lp_theory.specs.Nearest as nearest
use Rattle.undo_records.specs.Near.{near}

-- the products the other way round
pub sparse-turned : (n : ℕ) (ts : List Term) (y : Vector) → Ascends 0 n ts → sparse_total ts y ≡ total n (λ i. y i *ℚ dense ts i)
sparse-turned n ts y a = sparse-dense ts 0 n y a ∙ total_same n (λ i. dense ts i *ℚ y i) (λ i. y i *ℚ dense ts i) (λ i l. *ℚ_comm (dense ts i) (y i))

pub near_same : (l u : Option Number) → near l u ≡ nearest.near l u
near_same None None = refl
near_same None (Some u) = refl
near_same (Some l) None = refl
near_same (Some l) (Some u) = refl
