-- The names of programs.
use Rattle.std.specs.Prelude.{◌≢◌, ℕ, List, ◌∷◌, map, All, AllPairs}
use Rattle.lp_model.specs.Name.{IsName}
use Rattle.lp_model.specs.declared.program.RowDef.{RowDef}
use Rattle.lp_model.specs.declared.program.ColumnDef.{ColumnDef}

-- no two of the names are the same
abbrev pub Differ : List (List ℕ) → Type 0
Differ names = AllPairs (λ name other. name ≢ other) names

-- the rows' names by id
abbrev pub names_of_rows : List RowDef → List (List ℕ)
names_of_rows rows = map (λ r. r.name) rows

-- the columns' names by id
abbrev pub names_of_columns : List ColumnDef → List (List ℕ)
names_of_columns columns = map (λ c. c.name) columns

-- the objective, the rows and the columns have names; those of the objective and the rows differ, and so do those of the columns
pub record WellNamed (objective : List ℕ) (row_list : List RowDef) (column_list : List ColumnDef) : Type 0 where
  pub row_names : All IsName (objective ∷ names_of_rows row_list)
  pub column_names : All IsName (names_of_columns column_list)
  pub rows : Differ (objective ∷ names_of_rows row_list)
  pub columns : Differ (names_of_columns column_list)
