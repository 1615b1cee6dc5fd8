-- The rows that lock a column: those that a move of the column down, or up, can bring out of their sides.
use Rattle.std.specs.Prelude.{◌≡◌, ℕ, ◌<◌, None}
use Rattle.fractions.specs.Number.{zero_ℚ}
use Rattle.fractions.specs.Order.{◌<ℚ◌}
use Rattle.lp_model.specs.LinearProgram.{LinearProgram}

-- no row locks column j downwards: each entry a > 0 stands in a row without a lower side, each a < 0 in one without an upper side
pub record HasNoDownLock (M : LinearProgram) (j : ℕ) : Type 0 where
  pub positive : (i : ℕ) → i < M.rows → zero_ℚ <ℚ M.coefficient i j → M.lower_side i ≡ None
  pub negative : (i : ℕ) → i < M.rows → M.coefficient i j <ℚ zero_ℚ → M.upper_side i ≡ None

-- no row locks it upwards: the same with the sides changed over
pub record HasNoUpLock (M : LinearProgram) (j : ℕ) : Type 0 where
  pub positive : (i : ℕ) → i < M.rows → zero_ℚ <ℚ M.coefficient i j → M.upper_side i ≡ None
  pub negative : (i : ℕ) → i < M.rows → M.coefficient i j <ℚ zero_ℚ → M.lower_side i ≡ None
