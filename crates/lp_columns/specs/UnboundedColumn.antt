-- V3: a column without a bound in the direction in which it costs less, that no row locks there, lets the cost pass every number.
use Rattle.std.specs.Prelude.{◌≡◌, ◌⊎◌, ℕ, ◌<◌, None}
use Rattle.fractions.specs.Number.{zero_ℚ}
use Rattle.fractions.specs.Order.{◌<ℚ◌}
use Rattle.lp_model.specs.LinearProgram.{LinearProgram}
use Rattle.lp_columns.specs.Locks.{HasNoDownLock, HasNoUpLock}

-- upwards: c < 0, u is none, and no row locks it upwards
pub record RisesForEver (M : LinearProgram) (j : ℕ) : Type 0 where
  pub cost : M.costs j <ℚ zero_ℚ
  pub upper : M.upper_bound j ≡ None
  pub rows : HasNoUpLock M j

-- downwards: c > 0, l is none, and no row locks it downwards
pub record FallsForEver (M : LinearProgram) (j : ℕ) : Type 0 where
  pub cost : zero_ℚ <ℚ M.costs j
  pub lower : M.lower_bound j ≡ None
  pub rows : HasNoDownLock M j

-- enabled at column j, in the minimizing sense (that neither its bounds nor the sides of its rows are crossed is a matter of the scan alone)
pub record IsUnboundedColumn (M : LinearProgram) (j : ℕ) : Type 0 where
  pub column : j < M.columns
  pub solid : M.gap j ≡ None
  pub goes : RisesForEver M j ⊎ FallsForEver M j
