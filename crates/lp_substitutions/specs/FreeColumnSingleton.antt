-- K13: a continuous column with one entry whose bounds are implied by its row leaves with the row.
use Rattle.std.specs.Prelude.{◌≡◌, ℕ, if◌then◌else◌, Option, Some, None}
use Rattle.fractions.specs.Number.{Number, zero_ℚ, ◌-ℚ◌, ◌*ℚ◌}
use Rattle.fractions.specs.Compare.{lt_ℚ}
use Rattle.fractions.specs.Division.{◌/ℚ◌}
use Rattle.fractions.specs.Total.{put}
use Rattle.fractions.specs.Ends.{same_end, minus_ends, LowBelow, HighAbove}
use Rattle.lp_model.specs.Vectors.{Vector}
use Rattle.lp_model.specs.LinearProgram.{LinearProgram}
use Rattle.lp_model.specs.Reductions.{Priced}
use Rattle.lp_model.specs.Edits.{without_row}
use Rattle.lp_theory.specs.Activities.{least_rest, greatest_rest}
use Rattle.lp_theory.specs.Elsewhere.{products, IsColumnSingleton, column_put_into_row}
use Rattle.lp_theory.specs.MetEnds.{lower_over, upper_over}
use Rattle.lp_theory.specs.Nearest.{InOrder}

-- the side where the row is cheapest with the dual t: L where L = U, else L for t > 0, U for t < 0, none for t = 0
abbrev pub cheapest_side : Number → Option Number → Option Number → Option Number
cheapest_side t L U = if same_end L U then L else if lt_ℚ zero_ℚ t then L else if lt_ℚ t zero_ℚ then U else None

-- the bounds of x_j that row i implies where its value is s: (s - the greatest rest) / a and (s - the least rest) / a, changed
-- over for a < 0
abbrev pub implied_lower : LinearProgram → ℕ → ℕ → Number → Option Number
implied_lower M j i s = lower_over (M.coefficient i j) (minus_ends (Some s) (greatest_rest M i j)) (minus_ends (Some s) (least_rest M i j))

abbrev pub implied_upper : LinearProgram → ℕ → ℕ → Number → Option Number
implied_upper M j i s = upper_over (M.coefficient i j) (minus_ends (Some s) (greatest_rest M i j)) (minus_ends (Some s) (least_rest M i j))

-- enabled at column j, whose one entry a is in row i, in the minimizing sense: s is the cheapest side for t = c_j / a, and
-- j's bounds are implied (that no bounds are crossed is asked by the scan alone)
pub record IsFreeColumnSingleton (M : LinearProgram) (j i : ℕ) (s : Number) : Type 0 where
  pub singleton : IsColumnSingleton M j i
  pub sides : InOrder (M.lower_side i) (M.upper_side i)
  pub side : cheapest_side (M.costs j /ℚ M.coefficient i j) (M.lower_side i) (M.upper_side i) ≡ Some s
  pub lower : LowBelow (M.lower_bound j) (implied_lower M j i s)
  pub upper : HighAbove (M.upper_bound j) (implied_upper M j i s)

-- t times the row leaves the costs, and row and column are deleted
abbrev pub free_column_singleton_deleted : LinearProgram → ℕ → ℕ → LinearProgram
free_column_singleton_deleted M j i = without_row (column_put_into_row M j i) i

-- the offset gains t s
abbrev pub free_column_singleton_offset : LinearProgram → ℕ → ℕ → Number → Number
free_column_singleton_offset M j i s = (M.costs j /ℚ M.coefficient i j) *ℚ s

-- x_j = (s - the sum of row i without column j) / a; `row` is that row, of n columns
abbrev pub undo_free_column_singleton : ℕ → Number → Number → ℕ → Vector → Vector → Vector
undo_free_column_singleton j a s n row x = put x j ((s -ℚ products n row x) /ℚ a)

-- y_i = t, z_j = 0
abbrev pub undo_free_column_singleton_pair : ℕ → ℕ → Number → Number → Number → ℕ → Vector → Priced → Priced
undo_free_column_singleton_pair j i a s t n row p = record { x = undo_free_column_singleton j a s n row p.x; y = put p.y i t; z = put p.z j zero_ℚ }

-- the undoings with what M holds
abbrev pub free_column_singleton_point : LinearProgram → ℕ → ℕ → Number → Vector → Vector
free_column_singleton_point M j i s = undo_free_column_singleton j (M.coefficient i j) s M.columns (put (M.coefficient i) j zero_ℚ)

abbrev pub free_column_singleton_pair : LinearProgram → ℕ → ℕ → Number → Priced → Priced
free_column_singleton_pair M j i s = undo_free_column_singleton_pair j i (M.coefficient i j) s (M.costs j /ℚ M.coefficient i j) M.columns (put (M.coefficient i) j zero_ℚ)
