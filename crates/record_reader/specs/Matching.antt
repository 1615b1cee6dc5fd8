-- Records that are those of a reduced program.
use Rattle.std.specs.Str.{bytes_eq}
use Rattle.std.specs.Prelude.{Bool, true, false, ◌&&◌, ◌≡◌, ℕ, List, [], ◌∷◌}
use Rattle.lp_model.specs.ProgramData.{ProgramData}
use Rattle.lp_model.specs.Names.{names_of_rows, names_of_columns}
use Rattle.undo_records.specs.Postsolve.{Postsolve}
use Rattle.undo_records.specs.Named.{live_names}

-- name by name the same
abbrev pub same_names : List (List ℕ) → List (List ℕ) → Bool
same_names [] [] = true
same_names [] (w ∷ ws) = false
same_names (v ∷ vs) [] = false
same_names (v ∷ vs) (w ∷ ws) = bytes_eq v w && same_names vs ws

-- what is live by the records is what the program has, name by name
pub record Matches (p : Postsolve) (reduced : ProgramData) : Type 0 where
  pub columns : live_names p.columns ≡ names_of_columns reduced.columns
  pub rows : live_names p.rows ≡ names_of_rows reduced.rows
