-- Other ids of rows and columns: those of a problem without what was deleted.
use Rattle.std.specs.Prelude.{ℕ, List, map}
use Rattle.lp_model.specs.declared.terms.Term.{Term}
use Rattle.problem_model.specs.Programs.{rank}
use Rattle.problem_model.specs.Sparse.{Sparse}

-- an id for each row and for each column
pub record Ids : Type 0 where
  pub row : ℕ → ℕ
  pub column : ℕ → ℕ

-- the ids without the dead lines
abbrev pub new_ids : Sparse → Ids
new_ids p = record { row = rank p.matrix.rows; column = rank p.matrix.columns }

-- terms at other ids
abbrev pub term_at : (ℕ → ℕ) → Term → Term
term_at id t = record { id = id t.id; value = t.value }

abbrev pub terms_at : (ℕ → ℕ) → List Term → List Term
terms_at id ts = map (term_at id) ts
