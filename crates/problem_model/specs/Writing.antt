-- Problems whose written programs can be written, but for ends that are crossed.
use Rattle.std.specs.Prelude.{◌≡◌, ◌≢◌, ℕ, true, Option, Some, None, All, IfSome}
use Rattle.fractions.specs.Number.{Number}
use Rattle.lp_model.specs.Numbers.{Numbers}
use Rattle.lp_model.specs.Writable.{WritableNumber, WritableBound, WritableWidth}
use Rattle.problem_model.specs.Problems.{row_at, column_at, sides_at, bounds_at, cost_at}
use Rattle.problem_model.specs.Sparse.{Sparse}

-- a side at least is finite, and the width of two that differ can be written
abbrev pub KeptSides : Numbers → Option Number → Option Number → Type 0
KeptSides numbers None None = ⊥
KeptSides numbers (Some l) None = WritableNumber numbers l
KeptSides numbers None (Some u) = WritableNumber numbers u
KeptSides numbers (Some l) (Some u) = WritableNumber numbers l × WritableNumber numbers u × (l ≢ u → WritableWidth numbers l u)

pub record KeptColumn (numbers : Numbers) (p : Sparse) (j : ℕ) : Type 0 where
  pub cost : WritableNumber numbers (cost_at p j)
  pub lower : IfSome (bounds_at p j).lower (WritableBound numbers)
  pub upper : IfSome (bounds_at p j).upper (WritableBound numbers)
  pub entries : All (λ t. WritableNumber numbers t.value) (column_at p j).entries

pub record IsWritable (numbers : Numbers) (p : Sparse) : Type 0 where
  pub rows : (i : ℕ) → (row_at p i).live ≡ true → KeptSides numbers (sides_at p i).lower (sides_at p i).upper
  pub columns : (j : ℕ) → (column_at p j).live ≡ true → KeptColumn numbers p j
