-- The rows of a column's entries.
use Rattle.std.proofs.Common.{◌≡◌, ℕ, true, List, sym, subst}
use Rattle.std.specs.List.{All}
use Rattle.lp_model.specs.declared.terms.Term.{Term}
use Rattle.problem_model.specs.Problems.{row_at, column_entries}
use Rattle.problem_model.specs.Sparse.{Sparse}
use Rattle.problem_laws.proofs.Entries.{column_entries-live}

pub rows_live : (p : Sparse) (j : ℕ) (ts : List Term) → ts ≡ column_entries p j → All (λ (t : Term). (row_at p t.id).live ≡ true) ts
rows_live p j ts e = subst (All (λ (t : Term). (row_at p t.id).live ≡ true)) (sym e) (column_entries-live p j)
