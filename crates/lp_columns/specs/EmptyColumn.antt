-- K17: a column without entries is fixed where its cost is best.
use Rattle.std.specs.Prelude.{◌≡◌, ℕ, ◌<◌, IsTrue, if◌then◌else◌, Option, Some, None}
use Rattle.fractions.specs.Number.{Number, zero_ℚ}
use Rattle.fractions.specs.Order.{◌<ℚ◌}
use Rattle.fractions.specs.Compare.{lt_ℚ}
use Rattle.fractions.specs.Floor.{IsWhole}
use Rattle.lp_model.specs.LinearProgram.{LinearProgram}
use Rattle.lp_columns.specs.BestPlace.{column_fixed_at}

-- a number between two ends: the lower end, else the upper end, else 0
abbrev pub any_between : Option Number → Option Number → Option Number
any_between None None = Some zero_ℚ
any_between None (Some u) = Some u
any_between (Some l) u = Some l

-- where the cost c is least between l and u: at l for c > 0, at u for c < 0, anywhere for c = 0; none if that end is none
abbrev pub resting_place : Number → Option Number → Option Number → Option Number
resting_place c l u = if lt_ℚ zero_ℚ c then l else if lt_ℚ c zero_ℚ then u else any_between l u

-- enabled at column j, in the minimizing sense: no entries, l < u, and v is there, whole if the column is
pub record IsEmptyColumn (M : LinearProgram) (j : ℕ) (v : Number) : Type 0 where
  pub column : j < M.columns
  pub empty : (i : ℕ) → i < M.rows → M.coefficient i j ≡ zero_ℚ
  pub apart : (l u : Number) → M.lower_bound j ≡ Some l → M.upper_bound j ≡ Some u → l <ℚ u
  pub place : resting_place (M.costs j) (M.lower_bound j) (M.upper_bound j) ≡ Some v
  pub whole : IsTrue (M.whole j) → IsWhole v
  pub solid : M.gap j ≡ None

-- both bounds become v; nothing is to be undone
abbrev pub empty_column_fixed : LinearProgram → ℕ → Number → LinearProgram
empty_column_fixed M j v = column_fixed_at M j v
