-- K11: a column k that another column j without an upper bound can stand in for, no dearer and no worse in any row, stays at its
-- lower bound.
use Rattle.std.specs.Prelude.{◌≡◌, ◌≢◌, ℕ, ◌<◌, IsTrue, Some, None}
use Rattle.fractions.specs.Number.{Number}
use Rattle.fractions.specs.Order.{◌≤ℚ◌, ◌<ℚ◌}
use Rattle.fractions.specs.Floor.{IsWhole}
use Rattle.lp_model.specs.LinearProgram.{LinearProgram}
use Rattle.lp_columns.specs.BestPlace.{column_fixed_at}

-- enabled at columns j and k, in the minimizing sense: u_j is none, l_k = v and v < u_k, c_j <= c_k; a_j <= a_k in each row with
-- an upper side, a_j >= a_k in each with a lower side; a whole j asks for a whole k, and a whole k for a whole v
-- (the row with both columns and its length, and that no sides of their rows are crossed, are a matter of the scan alone)
pub record IsDominatedColumn (M : LinearProgram) (j k : ℕ) (v : Number) : Type 0 where
  pub first : j < M.columns
  pub second : k < M.columns
  pub differ : j ≢ k
  pub endless : M.upper_bound j ≡ None
  pub lower : M.lower_bound k ≡ Some v
  pub apart : (u : Number) → M.upper_bound k ≡ Some u → v <ℚ u
  pub costs : M.costs j ≤ℚ M.costs k
  pub below : (i : ℕ) → i < M.rows → (U : Number) → M.upper_side i ≡ Some U → M.coefficient i j ≤ℚ M.coefficient i k
  pub above : (i : ℕ) → i < M.rows → (L : Number) → M.lower_side i ≡ Some L → M.coefficient i k ≤ℚ M.coefficient i j
  pub both_whole : IsTrue (M.whole j) → IsTrue (M.whole k)
  pub whole : IsTrue (M.whole k) → IsWhole v
  pub first_solid : M.gap j ≡ None
  pub second_solid : M.gap k ≡ None

-- u_k becomes l_k; nothing is to be undone
abbrev pub dominated_column_fixed : LinearProgram → ℕ → Number → LinearProgram
dominated_column_fixed M k v = column_fixed_at M k v
