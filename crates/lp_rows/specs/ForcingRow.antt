-- K7: a row that reaches its side only where each of its columns is at one end puts the columns there.
use Rattle.std.specs.Prelude.{◌≡◌, ◌≢◌, ℕ, zero, suc, ◌<◌, ◌⊎◌, if◌then◌else◌, Option, Some}
use Rattle.fractions.specs.Number.{Number, zero_ℚ, ◌-ℚ◌, ◌*ℚ◌}
use Rattle.fractions.specs.Order.{◌≤ℚ◌}
use Rattle.fractions.specs.Compare.{lt_ℚ}
use Rattle.fractions.specs.Division.{◌/ℚ◌}
use Rattle.fractions.specs.MinMax.{min_ℚ, max_ℚ}
use Rattle.fractions.specs.Total.{put}
use Rattle.lp_model.specs.Vectors.{Vector}
use Rattle.lp_model.specs.LinearProgram.{LinearProgram}
use Rattle.lp_model.specs.Reductions.{Priced}
use Rattle.lp_theory.specs.Activities.{least, greatest}
use Rattle.lp_theory.specs.Crossed.{AreCrossed}
use Rattle.lp_model.specs.Edits.{without_row}

-- nothing of row i is crossed: neither its sides nor the bounds of its columns
pub record IsUncrossed (M : LinearProgram) (i : ℕ) : Type 0 where
  pub sides : AreCrossed (M.lower_side i) (M.upper_side i) → ⊥
  pub bounds : (k : ℕ) → k < M.columns → M.coefficient i k ≢ zero_ℚ → AreCrossed (M.lower_bound k) (M.upper_bound k) → ⊥

-- enabled at row i: the greatest activity is L, or the least is U; that the row has an entry only the scan asks
pub record IsForcedAtLowerSide (M : LinearProgram) (i : ℕ) : Type 0 where
  pub row : i < M.rows
  pub number : Number
  pub side : M.lower_side i ≡ Some number
  pub reach : greatest M i ≡ Some number
  pub uncrossed : IsUncrossed M i

pub record IsForcedAtUpperSide (M : LinearProgram) (i : ℕ) : Type 0 where
  pub row : i < M.rows
  pub number : Number
  pub side : M.upper_side i ≡ Some number
  pub reach : least M i ≡ Some number
  pub uncrossed : IsUncrossed M i

-- the bounds of column k where both are the end that gives row i the most: the upper bound for a > 0, the lower one for a < 0
abbrev pub lower_at_greatest : LinearProgram → ℕ → ℕ → Option Number
lower_at_greatest M i k = if lt_ℚ zero_ℚ (M.coefficient i k) then M.upper_bound k else M.lower_bound k

abbrev pub upper_at_greatest : LinearProgram → ℕ → ℕ → Option Number
upper_at_greatest M i k = if lt_ℚ (M.coefficient i k) zero_ℚ then M.lower_bound k else M.upper_bound k

-- and where both are the end that gives it the least
abbrev pub lower_at_least : LinearProgram → ℕ → ℕ → Option Number
lower_at_least M i k = if lt_ℚ (M.coefficient i k) zero_ℚ then M.upper_bound k else M.lower_bound k

abbrev pub upper_at_least : LinearProgram → ℕ → ℕ → Option Number
upper_at_least M i k = if lt_ℚ zero_ℚ (M.coefficient i k) then M.lower_bound k else M.upper_bound k

-- the columns of the row have these bounds, and the row is deleted
abbrev pub forced_at_lower_side : LinearProgram → ℕ → LinearProgram
forced_at_lower_side M i = without_row (record M { lower_bound = lower_at_greatest M i; upper_bound = upper_at_greatest M i }) i

abbrev pub forced_at_upper_side : LinearProgram → ℕ → LinearProgram
forced_at_upper_side M i = without_row (record M { lower_bound = lower_at_least M i; upper_bound = upper_at_least M i }) i

-- the greatest and the least of 0 and all z_k / a_k for k below n; where a_k is 0 the quotient is 0
unfoldable pub greatest_ratio : ℕ → Vector → Vector → Number
greatest_ratio zero z a = zero_ℚ
greatest_ratio (suc n) z a = max_ℚ (greatest_ratio n z a) (z n /ℚ a n)

unfoldable pub least_ratio : ℕ → Vector → Vector → Number
least_ratio zero z a = zero_ℚ
least_ratio (suc n) z a = min_ℚ (least_ratio n z a) (z n /ℚ a n)

-- t is the greatest of 0 and all z_k / a_k, or the least: none of them is past it, and it is one of them
pub record IsGreatestRatio (n : ℕ) (z a : Vector) (t : Number) : Type 0 where
  pub zero : zero_ℚ ≤ℚ t
  pub each : (k : ℕ) → k < n → (z k /ℚ a k) ≤ℚ t
  pub one : (t ≡ zero_ℚ) ⊎ ((k : ℕ) × (k < n) × (t ≡ z k /ℚ a k))

pub record IsLeastRatio (n : ℕ) (z a : Vector) (t : Number) : Type 0 where
  pub zero : t ≤ℚ zero_ℚ
  pub each : (k : ℕ) → k < n → t ≤ℚ (z k /ℚ a k)
  pub one : (t ≡ zero_ℚ) ⊎ ((k : ℕ) × (k < n) × (t ≡ z k /ℚ a k))

-- y_i = t, and each z_k falls by a_k t; the point stays
abbrev pub set_for_row : ℕ → Vector → Number → Priced → Priced
set_for_row i a t p = record p { y = put p.y i t; z = λ k. p.z k -ℚ a k *ℚ t }

-- t is the greatest ratio at the lower side, the least at the upper side; n is the number of columns, and a has the row's entries
abbrev pub undo_forced_at_lower_side : ℕ → ℕ → Vector → Priced → Priced
undo_forced_at_lower_side n i a p = set_for_row i a (greatest_ratio n p.z a) p

abbrev pub undo_forced_at_upper_side : ℕ → ℕ → Vector → Priced → Priced
undo_forced_at_upper_side n i a p = set_for_row i a (least_ratio n p.z a) p
