-- Programs whose names can stand in a text in free format.
use Rattle.std.specs.Prelude.{◌≢◌, ℕ, List, All, codes}
use Rattle.lp_model.specs.ProgramData.{ProgramData}
use Rattle.lp_model.specs.Names.{names_of_rows, names_of_columns}

-- no byte is a carriage return
abbrev pub HasNoReturn : List ℕ → Type 0
HasNoReturn name = All (λ b. b ≢ 13) name

-- nor is it the word of marker cards
abbrev pub CanNameRow : List ℕ → Type 0
CanNameRow name = HasNoReturn name × (name ≢ codes "'MARKER'")

-- no name has a carriage return, and the word of marker cards names no row and no objective
pub record Plain (p : ProgramData) : Type 0 where
  pub objective : CanNameRow p.objective
  pub rows : All CanNameRow (names_of_rows p.rows)
  pub columns : All HasNoReturn (names_of_columns p.columns)
