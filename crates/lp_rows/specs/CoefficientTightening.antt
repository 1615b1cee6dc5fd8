-- K9: the coefficient of a whole column in a row with one side shrinks by what the row can never use.
use Rattle.std.specs.Prelude.{◌≡◌, ℕ, ◌<◌, IsTrue, if◌then◌else◌, Option, Some, None}
use Rattle.fractions.specs.Number.{Number, zero_ℚ, one_ℚ, neg_ℚ, ◌+ℚ◌, ◌-ℚ◌, ◌*ℚ◌}
use Rattle.fractions.specs.Order.{◌<ℚ◌}
use Rattle.fractions.specs.Compare.{lt_ℚ}
use Rattle.fractions.specs.Floor.{IsWhole}
use Rattle.fractions.specs.MinMax.{abs_ℚ}
use Rattle.fractions.specs.Ends.{scaled}
use Rattle.lp_model.specs.LinearProgram.{LinearProgram}
use Rattle.lp_theory.specs.Activities.{least_rest, greatest_rest}
use Rattle.lp_model.specs.Edits.{with_coefficient, with_sides}

-- the side that a row has
pub data OneSide : Type 0 where
  Lower : OneSide
  Upper : OneSide

-- f: times f the row has an upper side
abbrev pub sign : OneSide → Number
sign Lower = neg_ℚ one_ℚ
sign Upper = one_ℚ

-- the ends of a row whose one side is b
abbrev pub lower_alone : OneSide → Number → Option Number
lower_alone Lower b = Some b
lower_alone Upper b = None

abbrev pub upper_alone : OneSide → Number → Option Number
upper_alone Lower b = None
upper_alone Upper b = Some b

-- the greatest that f times the row gives without column j: for f = -1 that is minus the least rest of the row
abbrev pub greatest_rest_of : OneSide → LinearProgram → ℕ → ℕ → Option Number
greatest_rest_of Lower M i j = scaled (sign Lower) (least_rest M i j)
greatest_rest_of Upper M i j = greatest_rest M i j

-- the bounds l and u of column j, the row's side, and H, the greatest rest of f times the row
pub record Tightening : Type 0 where
  pub lower : Number
  pub upper : Number
  pub side : Number
  pub rest : Number

-- D, of the coefficient A and the side B of f times the row: B - H - A (u - 1) for A > 0, B - H - A (l + 1) for A < 0
abbrev pub slack_of : Number → Number → Tightening → Number
slack_of A B t = if lt_ℚ zero_ℚ A then B -ℚ t.rest -ℚ A *ℚ (t.upper -ℚ one_ℚ) else B -ℚ t.rest -ℚ A *ℚ (t.lower +ℚ one_ℚ)

-- the coefficient becomes A - D for A > 0 and A + D for A < 0, the side B - D u and B + D l
abbrev pub shrunk : Number → Number → Number
shrunk A D = if lt_ℚ zero_ℚ A then A -ℚ D else A +ℚ D

abbrev pub moved_side : Number → Number → Tightening → Number → Number
moved_side A B t D = if lt_ℚ zero_ℚ A then B -ℚ D *ℚ t.upper else B +ℚ D *ℚ t.lower

-- D at row i and column j
abbrev pub slack_at : LinearProgram → ℕ → ℕ → OneSide → Tightening → Number
slack_at M i j f t = slack_of (sign f *ℚ M.coefficient i j) (sign f *ℚ t.side) t

-- enabled at row i, which has one side alone, and its whole column j: 0 < D < |A|; that l < u only the scan asks
pub record IsCoefficientTightening (M : LinearProgram) (i j : ℕ) (f : OneSide) (t : Tightening) : Type 0 where
  pub row : i < M.rows
  pub column : j < M.columns
  pub lower_side : M.lower_side i ≡ lower_alone f t.side
  pub upper_side : M.upper_side i ≡ upper_alone f t.side
  pub rest : greatest_rest_of f M i j ≡ Some t.rest
  pub whole : IsTrue (M.whole j)
  pub lower : M.lower_bound j ≡ Some t.lower
  pub upper : M.upper_bound j ≡ Some t.upper
  pub whole_lower : IsWhole t.lower
  pub whole_upper : IsWhole t.upper
  pub positive : zero_ℚ <ℚ slack_at M i j f t
  pub short : slack_at M i j f t <ℚ abs_ℚ (sign f *ℚ M.coefficient i j)

-- the coefficient and the side, times f again
abbrev pub new_coefficient : LinearProgram → ℕ → ℕ → OneSide → Tightening → Number
new_coefficient M i j f t = sign f *ℚ shrunk (sign f *ℚ M.coefficient i j) (slack_at M i j f t)

abbrev pub new_side : LinearProgram → ℕ → ℕ → OneSide → Tightening → Number
new_side M i j f t = sign f *ℚ moved_side (sign f *ℚ M.coefficient i j) (sign f *ℚ t.side) t (slack_at M i j f t)

-- row i has them; nothing is to be undone
abbrev pub coefficient_tightened : LinearProgram → ℕ → ℕ → OneSide → Tightening → LinearProgram
coefficient_tightened M i j f t = with_sides (with_coefficient M i j (new_coefficient M i j f t)) i (lower_alone f (new_side M i j f t)) (upper_alone f (new_side M i j f t))
