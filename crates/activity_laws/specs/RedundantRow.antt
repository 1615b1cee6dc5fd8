-- K5: a row whose sides its columns' bounds keep is deleted.
use Rattle.std.specs.Prelude.{ℕ, ⊤, Bool, ◌&&◌, List, [], ◌∷◌}
use Rattle.undo_records.specs.declared.undo.Undo.{Undo}
use Rattle.undo_records.specs.declared.undo.Undo.TheVariants as undo
use Rattle.problem_model.specs.declared.edit.Edit.{Edit}
use Rattle.problem_model.specs.declared.edit.Edit.TheVariants.{DeleteRow}
use Rattle.problem_model.specs.declared.part.Contents.{Contents}
use Rattle.problem_model.specs.Sparse.{Sparse}
use Rattle.activity_laws.specs.Rows.{RowTest, has_some, keeps_lower, keeps_upper, on_activities, on_row, row_found}

-- the row has an entry, and both its sides are kept
abbrev pub is_redundant_row : RowTest
is_redundant_row l u ss = has_some ss && on_activities (λ least greatest. keeps_lower l least && keeps_upper u greatest) ss

abbrev pub holds : List Contents → Bool
holds cs = on_row is_redundant_row cs

abbrev pub enabled : Sparse → ℕ → Bool
enabled p i = holds (row_found p i)

-- the row goes
abbrev pub edits : Sparse → ℕ → List Edit
edits p i = DeleteRow i ∷ []

abbrev pub record_of : Sparse → ℕ → Undo
record_of p i = undo.RedundantRow (record { row = i })

-- nothing is computed for the change
abbrev pub Computes : Sparse → ℕ → Type 0
Computes p i = ⊤
