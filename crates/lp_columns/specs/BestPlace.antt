-- A column fixed at its best place: no other number between its bounds costs less or helps a row.
use Rattle.std.specs.Prelude.{◌≡◌, ℕ, ◌<◌, IsTrue, Some, None}
use Rattle.fractions.specs.Number.{Number, zero_ℚ, ◌+ℚ◌, ◌-ℚ◌, ◌*ℚ◌}
use Rattle.fractions.specs.Order.{◌≤ℚ◌}
use Rattle.fractions.specs.Ends.{Between}
use Rattle.fractions.specs.Floor.{IsWhole}
use Rattle.lp_model.specs.LinearProgram.{LinearProgram}
use Rattle.lp_model.specs.Edits.{with_bounds}

-- in the minimizing sense: v lies between the bounds of column j, a move from any x between them to v doesn't raise the cost,
-- and a row that has its value y between its sides still has it there after the move
pub record IsBestAt (M : LinearProgram) (j : ℕ) (v : Number) : Type 0 where
  pub column : j < M.columns
  pub within : Between (M.lower_bound j) (M.upper_bound j) v
  pub whole : IsTrue (M.whole j) → IsWhole v
  pub solid : M.gap j ≡ None
  pub cheap : (x : Number) → Between (M.lower_bound j) (M.upper_bound j) x → (M.costs j *ℚ (v -ℚ x)) ≤ℚ zero_ℚ
  pub rows : (i : ℕ) → i < M.rows → (x y : Number) → Between (M.lower_bound j) (M.upper_bound j) x → Between (M.lower_side i) (M.upper_side i) y
      → Between (M.lower_side i) (M.upper_side i) (y +ℚ M.coefficient i j *ℚ (v -ℚ x))

-- both bounds become v
abbrev pub column_fixed_at : LinearProgram → ℕ → Number → LinearProgram
column_fixed_at M j v = with_bounds M j (Some v) (Some v)
