-- K9: the coefficient of a whole column shrinks in a row with one finite side, and the side with it. f is 1 where that side is the upper
-- one, and -1 where it is the lower one: times f the row has an upper side.
use Rattle.std.specs.Prelude.{◌≡◌, ◌≢◌, ℕ, ⊤, Bool, true, not, ◌&&◌, if◌then◌else◌, List, [], ◌∷◌, Option, Some, None, is_some, Result, Ok, Err}
use Rattle.fractions.specs.Number.{Number, zero_ℚ, one_ℚ, neg_ℚ, ◌+ℚ◌, ◌*ℚ◌}
use Rattle.fractions.specs.Order.{◌<ℚ◌}
use Rattle.fractions.specs.Compare.{lt_ℚ}
use Rattle.fractions.specs.Floor.{is_whole}
use Rattle.fractions.specs.Lowest.{Fits}
use Rattle.fractions.specs.MinMax.{abs_ℚ}
use Rattle.fractions.specs.FracWords.{SumFits}
use Rattle.fractions.specs.declared.Past.{Past}
use Rattle.undo_records.specs.declared.side.Side.{Side}
use Rattle.undo_records.specs.declared.side.Side.TheVariants.{Lower, Upper}
use Rattle.undo_records.specs.declared.undo.Undo.{Undo}
use Rattle.undo_records.specs.declared.undo.Undo.TheVariants as undo
use Rattle.problem_model.specs.declared.edit.Edit.{Edit}
use Rattle.problem_model.specs.declared.edit.Edit.TheVariants.{SetEntry, SetSides}
use Rattle.problem_model.specs.declared.part.Contents.{Contents}
use Rattle.problem_model.specs.Problems.{sides_at}
use Rattle.problem_model.specs.Sparse.{Sparse}
use Rattle.row_spans.specs.declared.span.Extreme.{Extreme}
use Rattle.row_spans.specs.declared.span.Extreme.TheVariants.{Least, Greatest}
use Rattle.row_spans.specs.declared.span.Span.{Span}
use Rattle.row_spans.specs.Exact.{exact_difference, exact_product, exact_sum}
use Rattle.row_spans.specs.RowSums.{continued, rest}
use Rattle.row_spans.specs.Spans.{spans_of}
use Rattle.activity_laws.specs.Rows.{RowTest, on_row, row_found}
use Rattle.activity_laws.specs.BoundTightening.{entry_at, if_made}
use Rattle.coef_laws.specs.declared.tightening.Tightening.{Tightening}

-- f times a number
abbrev pub turned : Side → Number → Number
turned Lower q = neg_ℚ q
turned Upper q = q

-- the extreme of the row that is the greatest of f times it
abbrev pub extreme_of : Side → Extreme
extreme_of Lower = Least
extreme_of Upper = Greatest

-- the one side that is finite, where the other isn't
abbrev pub one_side : Option Number → Option Number → Option (Side × Number)
one_side (Some b) None = Some (Lower, b)
one_side None (Some b) = Some (Upper, b)
one_side l u = None

-- a number that is finite and isn't past
abbrev pub if_finite : Result (Option Number) Past → Option Number
if_finite (Ok e) = e
if_finite (Err e) = None

-- what comes of a value, where there is one
abbrev pub given : {A B : Type 0} → Option A → (A → Option B) → Option B
given None f = None
given (Some a) f = f a

-- the bounds of a whole column that are finite, whole and apart
abbrev pub whole_bounds : Option Number → Option Number → Bool → Option (Number × Number)
whole_bounds (Some l) (Some u) true = if is_whole l && (is_whole u && lt_ℚ l u) then Some (l, u) else None
whole_bounds l u w = None

-- the bound at which a coefficient gives its row the most, and the next whole number within the bounds
abbrev pub best_bound : Number → Number → Number → Number
best_bound a l u = if lt_ℚ zero_ℚ a then u else l

abbrev pub next_best : Number → Number → Number → Result Number Past
next_best a l u = if lt_ℚ zero_ℚ a then exact_difference u one_ℚ else exact_sum l one_ℚ

-- what a rest h, and a coefficient a at x, leave of a side b
abbrev pub left_at : Number → Number → Number → Number → Result Number Past
left_at a b h x = continued (exact_difference b h) (λ d. continued (exact_product a x) (λ e. exact_difference d e))

-- D: what they leave at the next best number
abbrev pub slack : Number → Number → Number → Number → Number → Result Number Past
slack a b h l u = continued (next_best a l u) (left_at a b h)

-- 0 < D < |A|
abbrev pub if_short : Tightening → Option Tightening
if_short t = if lt_ℚ zero_ℚ t.slack && lt_ℚ t.slack (abs_ℚ t.coefficient) then Some t else None

-- for the coefficient a, the side b and the greatest rest h of f times the row
abbrev pub tightened_by : Side → Number → Number → Number → Number → Number → Option Tightening
tightened_by f a b h l u = given (if_made (slack a b h l u)) (λ d. if_short (record { side = f; coefficient = a; limit = b; bound = best_bound a l u; slack = d }))

-- at an entry of a row whose side f is b, by the rest without its column
abbrev pub tightened_at : Side → Number → Span → Result (Option Number) Past → Option Tightening
tightened_at f b s r =
    given (whole_bounds s.lower s.upper (not s.semi && s.whole)) (λ bounds.
    given (if_finite r) (λ h. tightened_by f (turned f s.value) (turned f b) (turned f h) bounds.0 bounds.1))

-- in column j of a row whose side f is b
abbrev pub tightened_in : Side → Number → ℕ → List Span → Option Tightening
tightened_in f b j ss = given (entry_at j ss) (λ s. tightened_at f b s (rest (extreme_of f) j ss))

-- in column j of a row; none where it isn't tightened
abbrev pub tightening : ℕ → Option Number → Option Number → List Span → Option Tightening
tightening j l u ss = given (one_side l u) (λ side. tightened_in side.0 side.1 j ss)

abbrev pub is_coefficient_tightening : ℕ → RowTest
is_coefficient_tightening j l u ss = is_some (tightening j l u ss)

abbrev pub holds : ℕ → List Contents → Bool
holds j cs = on_row (is_coefficient_tightening j) cs

abbrev pub enabled : Sparse → ℕ → ℕ → Bool
enabled p i j = holds j (row_found p i)

-- less D for A > 0, more by D for A < 0
abbrev pub step : Number → Number → Number
step a d = if lt_ℚ zero_ℚ a then neg_ℚ d else d

-- the coefficient A - D or A + D, and the side B - D u or B + D l, of f times the row
abbrev pub new_coefficient : Tightening → Number
new_coefficient t = t.coefficient +ℚ step t.coefficient t.slack

abbrev pub new_limit : Tightening → Number
new_limit t = t.limit +ℚ step t.coefficient (t.slack *ℚ t.bound)

-- the row gets this side alone
abbrev pub side_set : Side → ℕ → Number → Edit
side_set Lower i b = SetSides i (Some b) None
side_set Upper i b = SetSides i None (Some b)

-- both, times f again
abbrev pub edits_by : ℕ → ℕ → Option Tightening → List Edit
edits_by i j None = []
edits_by i j (Some t) = SetEntry i j (turned t.side (new_coefficient t)) ∷ side_set t.side i (turned t.side (new_limit t)) ∷ []

abbrev pub tightening_of : Sparse → ℕ → ℕ → Option Tightening
tightening_of p i j = tightening j (sides_at p i).lower (sides_at p i).upper (spans_of p i)

abbrev pub edits : Sparse → ℕ → ℕ → List Edit
edits p i j = edits_by i j (tightening_of p i j)

abbrev pub record_of : Sparse → ℕ → ℕ → Undo
record_of p i j = undo.CoefficientTightening (record { row = i; column = j })

-- what is owed beside: the coefficient comes strictly closer to 0, and doesn't become 0
abbrev pub Shrinks : Sparse → ℕ → ℕ → Type 0
Shrinks p i j = (t : Tightening) × (tightening_of p i j ≡ Some t) × (new_coefficient t ≢ zero_ℚ) × (abs_ℚ (new_coefficient t) <ℚ abs_ℚ t.coefficient)

-- the product and the sums are computed
pub record AreComputed (t : Tightening) : Type 0 where
  pub coefficient : SumFits t.coefficient (step t.coefficient t.slack)
  pub product : Fits (t.slack *ℚ t.bound)
  pub limit : SumFits t.limit (step t.coefficient (t.slack *ℚ t.bound))

abbrev pub ComputedBy : Option Tightening → Type 0
ComputedBy None = ⊤
ComputedBy (Some t) = AreComputed t

abbrev pub Computes : Sparse → ℕ → ℕ → Type 0
Computes p i j = ComputedBy (tightening_of p i j)
