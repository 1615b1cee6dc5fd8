-- K14: a continuous column with one entry is a slack of its row: it leaves, and the row's sides are moved apart by its bounds.
use Rattle.std.specs.Prelude.{◌≡◌, ◌⊎◌, ℕ, if◌then◌else◌, Option, Some, None}
use Rattle.fractions.specs.Number.{Number, zero_ℚ, neg_ℚ, ◌+ℚ◌, ◌*ℚ◌}
use Rattle.fractions.specs.Compare.{eq_ℚ}
use Rattle.fractions.specs.Division.{◌/ℚ◌}
use Rattle.fractions.specs.Total.{put}
use Rattle.fractions.specs.Ends.{less, minus_ends, meet_low, meet_high}
use Rattle.lp_model.specs.Vectors.{Vector}
use Rattle.lp_model.specs.LinearProgram.{LinearProgram}
use Rattle.lp_model.specs.Reductions.{Priced}
use Rattle.lp_model.specs.Edits.{without_row, with_sides}
use Rattle.lp_theory.specs.Activities.{least_term, greatest_term}
use Rattle.lp_theory.specs.Elsewhere.{products, IsColumnSingleton, column_put_into_row}
use Rattle.lp_theory.specs.MetEnds.{lower_over, upper_over}
use Rattle.lp_theory.specs.Nearest.{InOrder, near}

-- both sides are one number
abbrev pub IsEquation : Option Number → Option Number → Type 0
IsEquation L U = (r : Number) × (L ≡ Some r) × (U ≡ Some r)

-- enabled at column j, whose one entry is in row i: neither bounds nor sides are crossed, and L = U or c_j = 0
pub record IsSlackColumnSingleton (M : LinearProgram) (j i : ℕ) : Type 0 where
  pub singleton : IsColumnSingleton M j i
  pub bounds : InOrder (M.lower_bound j) (M.upper_bound j)
  pub sides : InOrder (M.lower_side i) (M.upper_side i)
  pub equation_or_free : IsEquation (M.lower_side i) (M.upper_side i) ⊎ (M.costs j ≡ zero_ℚ)

-- the sides L - max(a x_j) and U - min(a x_j)
abbrev pub moved_lower : LinearProgram → ℕ → ℕ → Option Number
moved_lower M j i = minus_ends (M.lower_side i) (greatest_term (M.coefficient i j) (M.lower_bound j) (M.upper_bound j))

abbrev pub moved_upper : LinearProgram → ℕ → ℕ → Option Number
moved_upper M j i = minus_ends (M.upper_side i) (least_term (M.coefficient i j) (M.lower_bound j) (M.upper_bound j))

-- t times the row leaves the costs, the row has these sides, and the column is deleted
abbrev pub slack_column_singleton_deleted : LinearProgram → ℕ → ℕ → LinearProgram
slack_column_singleton_deleted M j i = with_sides (column_put_into_row M j i) i (moved_lower M j i) (moved_upper M j i)

-- where both sides are infinite, the row is deleted too
pub record IsRowLeftFree (M : LinearProgram) (j i : ℕ) : Type 0 where
  pub slack : IsSlackColumnSingleton M j i
  pub lower : moved_lower M j i ≡ None
  pub upper : moved_upper M j i ≡ None

abbrev pub slack_row_deleted : LinearProgram → ℕ → ℕ → LinearProgram
slack_row_deleted M j i = without_row (slack_column_singleton_deleted M j i) i

-- the offset gains t r where L = U = r
abbrev pub equation_offset : Number → Option Number → Option Number → Number
equation_offset t None U = zero_ℚ
equation_offset t (Some l) None = zero_ℚ
equation_offset t (Some l) (Some u) = if eq_ℚ l u then t *ℚ l else zero_ℚ

abbrev pub slack_column_singleton_offset : LinearProgram → ℕ → ℕ → Number
slack_column_singleton_offset M j i = equation_offset (M.costs j /ℚ M.coefficient i j) (M.lower_side i) (M.upper_side i)

-- the number nearest to 0 in [l, u] met with [(L - rest) / a, (U - rest) / a], changed over for a < 0
abbrev pub slack_value : Number → Option Number → Option Number → Option Number → Option Number → Number → Number
slack_value a L U l u rest = near (meet_low l (lower_over a (less L rest) (less U rest))) (meet_high u (upper_over a (less L rest) (less U rest)))

-- x_j is that number, where the rest is the sum of row i without column j; `row` is that row, of n columns
abbrev pub undo_slack_column_singleton : ℕ → Number → Option Number → Option Number → Option Number → Option Number → ℕ → Vector → Vector → Vector
undo_slack_column_singleton j a L U l u n row x = put x j (slack_value a L U l u (products n row x))

-- the row is kept: z_j = -a y_i, then y_i = y_i + t
abbrev pub undo_slack_column_singleton_kept : ℕ → ℕ → Number → Number → Option Number → Option Number → Option Number → Option Number → ℕ → Vector → Priced → Priced
undo_slack_column_singleton_kept j i a t L U l u n row p = record { x = undo_slack_column_singleton j a L U l u n row p.x; y = put p.y i (p.y i +ℚ t); z = put p.z j (neg_ℚ (a *ℚ p.y i)) }

-- the row is deleted: z_j = 0, y_i = t
abbrev pub undo_slack_column_singleton_dropped : ℕ → ℕ → Number → Number → Option Number → Option Number → Option Number → Option Number → ℕ → Vector → Priced → Priced
undo_slack_column_singleton_dropped j i a t L U l u n row p = record { x = undo_slack_column_singleton j a L U l u n row p.x; y = put p.y i t; z = put p.z j zero_ℚ }

-- the undoings with what M holds
abbrev pub slack_column_singleton_point : LinearProgram → ℕ → ℕ → Vector → Vector
slack_column_singleton_point M j i = undo_slack_column_singleton j (M.coefficient i j) (M.lower_side i) (M.upper_side i) (M.lower_bound j) (M.upper_bound j) M.columns (put (M.coefficient i) j zero_ℚ)

abbrev pub slack_kept_pair : LinearProgram → ℕ → ℕ → Priced → Priced
slack_kept_pair M j i = undo_slack_column_singleton_kept j i (M.coefficient i j) (M.costs j /ℚ M.coefficient i j) (M.lower_side i) (M.upper_side i) (M.lower_bound j) (M.upper_bound j) M.columns (put (M.coefficient i) j zero_ℚ)

abbrev pub slack_dropped_pair : LinearProgram → ℕ → ℕ → Priced → Priced
slack_dropped_pair M j i = undo_slack_column_singleton_dropped j i (M.coefficient i j) (M.costs j /ℚ M.coefficient i j) (M.lower_side i) (M.upper_side i) (M.lower_bound j) (M.upper_bound j) M.columns (put (M.coefficient i) j zero_ℚ)
