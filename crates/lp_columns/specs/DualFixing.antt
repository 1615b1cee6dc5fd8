-- K10 (dual fixing): a column that no row locks in the direction in which it doesn't cost more is fixed at its bound there.
use Rattle.std.specs.Prelude.{◌≡◌, ◌⊎◌, ℕ, ◌<◌, IsTrue, Some, None}
use Rattle.fractions.specs.Number.{Number, zero_ℚ}
use Rattle.fractions.specs.Order.{◌≤ℚ◌, ◌<ℚ◌}
use Rattle.fractions.specs.Floor.{IsWhole}
use Rattle.lp_model.specs.LinearProgram.{LinearProgram}
use Rattle.lp_columns.specs.BestPlace.{column_fixed_at}
use Rattle.lp_columns.specs.Locks.{HasNoDownLock, HasNoUpLock}

-- down: l = v, whole if the column is, c >= 0, and no row locks it downwards
pub record GoesDown (M : LinearProgram) (j : ℕ) (v : Number) : Type 0 where
  pub lower : M.lower_bound j ≡ Some v
  pub whole : IsTrue (M.whole j) → IsWhole v
  pub cost : zero_ℚ ≤ℚ M.costs j
  pub rows : HasNoDownLock M j

-- up: u = v, whole if the column is, c <= 0, and no row locks it upwards
pub record GoesUp (M : LinearProgram) (j : ℕ) (v : Number) : Type 0 where
  pub upper : M.upper_bound j ≡ Some v
  pub whole : IsTrue (M.whole j) → IsWhole v
  pub cost : M.costs j ≤ℚ zero_ℚ
  pub rows : HasNoUpLock M j

-- enabled at column j, in the minimizing sense: l < u, and it goes down to v or up to v
-- (that down is taken where it can do both, and that no sides of its rows are crossed, is a matter of the scan alone)
pub record IsDualFixing (M : LinearProgram) (j : ℕ) (v : Number) : Type 0 where
  pub column : j < M.columns
  pub solid : M.gap j ≡ None
  pub apart : (l u : Number) → M.lower_bound j ≡ Some l → M.upper_bound j ≡ Some u → l <ℚ u
  pub goes : GoesDown M j v ⊎ GoesUp M j v

-- both bounds become v; nothing is to be undone
abbrev pub column_dual_fixed : LinearProgram → ℕ → Number → LinearProgram
column_dual_fixed M j v = column_fixed_at M j v
