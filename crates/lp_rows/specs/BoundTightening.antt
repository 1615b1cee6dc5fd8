-- K8: a bound of column j becomes the one that row i and the other columns' bounds imply.
use Rattle.std.specs.Prelude.{◌≢◌, ℕ, ◌<◌, not, ◌&&◌, if◌then◌else◌, Option, Some}
use Rattle.fractions.specs.Number.{Number, zero_ℚ, ◌+ℚ◌, ◌-ℚ◌, ◌*ℚ◌}
use Rattle.fractions.specs.Compare.{lt_ℚ}
use Rattle.fractions.specs.Division.{◌/ℚ◌}
use Rattle.fractions.specs.Total.{put}
use Rattle.fractions.specs.Ends.{over, minus_ends, LowBelow, HighAbove, same_end}
use Rattle.lp_model.specs.Vectors.{Vector}
use Rattle.lp_model.specs.LinearProgram.{LinearProgram}
use Rattle.lp_model.specs.Reductions.{Priced}
use Rattle.lp_theory.specs.Activities.{least_rest, greatest_rest}
use Rattle.lp_model.specs.Edits.{with_bounds}

-- what is left of L by the greatest rest, and of U by the least, over the entry a; for a below 0 they change places
abbrev pub implied_lower : LinearProgram → ℕ → ℕ → Option Number
implied_lower M i j =
    if lt_ℚ zero_ℚ (M.coefficient i j)
    then over (minus_ends (M.lower_side i) (greatest_rest M i j)) (M.coefficient i j)
    else over (minus_ends (M.upper_side i) (least_rest M i j)) (M.coefficient i j)

abbrev pub implied_upper : LinearProgram → ℕ → ℕ → Option Number
implied_upper M i j =
    if lt_ℚ zero_ℚ (M.coefficient i j)
    then over (minus_ends (M.upper_side i) (least_rest M i j)) (M.coefficient i j)
    else over (minus_ends (M.lower_side i) (greatest_rest M i j)) (M.coefficient i j)

-- Enabled at row i and its column j: the implied bound is no worse than the bound. That it is finite and strictly better, that the
-- row has two entries or more, and how often the bound was tightened only the scan asks.
pub record IsLowerBoundTightening (M : LinearProgram) (i j : ℕ) : Type 0 where
  pub row : i < M.rows
  pub column : j < M.columns
  pub entry : M.coefficient i j ≢ zero_ℚ
  pub better : LowBelow (M.lower_bound j) (implied_lower M i j)

pub record IsUpperBoundTightening (M : LinearProgram) (i j : ℕ) : Type 0 where
  pub row : i < M.rows
  pub column : j < M.columns
  pub entry : M.coefficient i j ≢ zero_ℚ
  pub better : HighAbove (M.upper_bound j) (implied_upper M i j)

-- the column has that bound
abbrev pub lower_bound_tightened : LinearProgram → ℕ → ℕ → LinearProgram
lower_bound_tightened M i j = with_bounds M j (implied_lower M i j) (M.upper_bound j)

abbrev pub upper_bound_tightened : LinearProgram → ℕ → ℕ → LinearProgram
upper_bound_tightened M i j = with_bounds M j (M.lower_bound j) (implied_upper M i j)

-- d = z_j / a_j goes to row i, whose entries are a: y_i grows by d, and each z_k falls by a_k d
abbrev pub handed_to_row : ℕ → ℕ → Vector → Priced → Priced
handed_to_row i j a p = record p { y = put p.y i (p.y i +ℚ p.z j /ℚ a j); z = λ k. p.z k -ℚ a k *ℚ (p.z j /ℚ a j) }

-- lower: where z_j > 0 and x_j isn't the old bound b; upper: where z_j < 0 and x_j isn't b; the point stays
abbrev pub undo_lower_bound_tightened : ℕ → ℕ → Option Number → Vector → Priced → Priced
undo_lower_bound_tightened i j b a p = if lt_ℚ zero_ℚ (p.z j) && not (same_end b (Some (p.x j))) then handed_to_row i j a p else p

abbrev pub undo_upper_bound_tightened : ℕ → ℕ → Option Number → Vector → Priced → Priced
undo_upper_bound_tightened i j b a p = if lt_ℚ (p.z j) zero_ℚ && not (same_end b (Some (p.x j))) then handed_to_row i j a p else p
