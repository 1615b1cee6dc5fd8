-- Rows of columns.
use Rattle.std.specs.Prelude.{ℕ, ◌+◌, List, [], ◌∷◌, ◌++◌, if◌then◌else◌}
use Rattle.lp_model.specs.declared.terms.Term.{Term}
use Rattle.lp_model.specs.declared.program.ColumnDef.{ColumnDef}
use Rattle.lp_model.specs.Sparse.{dense, has}
use Rattle.entry_lines.specs.Places.{edited_at}

-- what a row has in column j, where the column has these terms: the number at the row's id, if the column has one there
abbrev pub crossing : ℕ → ℕ → List Term → List Term
crossing i j ts = if has i ts then record { id = j; value = dense ts i } ∷ [] else []

-- what row i has in columns that are numbered from j on
abbrev pub across : ℕ → ℕ → List ColumnDef → List Term
across i j [] = []
across i j (c ∷ cs) = crossing i j c.entries ++ across i (j + 1) cs

-- each row that the terms of column j name gets an entry there
abbrev pub with_entry : ℕ → Term → List Term → List Term
with_entry j t row = row ++ record { id = j; value = t.value } ∷ []

abbrev pub scattered : ℕ → List (List Term) → List Term → List (List Term)
scattered j rows ts = edited_at [] (with_entry j) rows ts
