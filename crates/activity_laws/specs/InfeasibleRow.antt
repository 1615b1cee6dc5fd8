-- V2: a row of which a side is out of reach of its columns' bounds. A row without entries gives 0 alone.
use Rattle.std.specs.Prelude.{ℕ, Bool, ◌||◌, List}
use Rattle.lp_model.specs.EndTests.{is_crossed}
use Rattle.problem_model.specs.declared.part.Contents.{Contents}
use Rattle.problem_model.specs.Sparse.{Sparse}
use Rattle.activity_laws.specs.Rows.{RowTest, on_activities, on_row, row_found}

-- the least activity is above the upper side, or the greatest below the lower side
abbrev pub is_infeasible_row : RowTest
is_infeasible_row l u ss = on_activities (λ least greatest. is_crossed least u || is_crossed l greatest) ss

abbrev pub holds : List Contents → Bool
holds cs = on_row is_infeasible_row cs

abbrev pub enabled : Sparse → ℕ → Bool
enabled p i = holds (row_found p i)
