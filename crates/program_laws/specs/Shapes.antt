-- What a problem that is written has to do with its program.
use Rattle.std.specs.Prelude.{◌≡◌, ℕ, true, length}
use Rattle.lp_model.specs.ProgramData.{ProgramData}
use Rattle.lp_model.specs.Turning.{signed}
use Rattle.lp_model.specs.EndTests.{is_in_order}
use Rattle.problem_model.specs.Problems.{row_at, sides_at}
use Rattle.problem_model.specs.Sparse.{Sparse}

-- as many rows and columns as the program, and its constant as it is minimized
pub record IsOf (program : ProgramData) (p : Sparse) : Type 0 where
  pub rows : length p.matrix.rows ≡ length program.rows
  pub columns : length p.matrix.columns ≡ length program.columns
  pub constant : p.constant ≡ signed program.sense program.constant

-- no live row has a lower side above its upper side
abbrev pub NoCrossedSides : Sparse → Type 0
NoCrossedSides p = (i : ℕ) → (row_at p i).live ≡ true → is_in_order (sides_at p i).lower (sides_at p i).upper ≡ true
