-- What undoing makes of a pair: a value and a reduced cost for each original column, a dual for each original row, minimizing.
use Rattle.std.specs.Prelude.{ℕ, Bool, not, ◌&&◌, List, [], ◌∷◌, if◌then◌else◌, Option, Some}
use Rattle.fractions.specs.Number.{Number, zero_ℚ, neg_ℚ, ◌+ℚ◌, ◌-ℚ◌, ◌*ℚ◌}
use Rattle.fractions.specs.Compare.{lt_ℚ}
use Rattle.fractions.specs.Division.{◌/ℚ◌}
use Rattle.fractions.specs.MinMax.{min_ℚ, max_ℚ}
use Rattle.fractions.specs.Ends.{same_end}
use Rattle.fractions.specs.Total.{put}
use Rattle.lp_model.specs.declared.terms.Term.{Term}
use Rattle.lp_model.specs.Vectors.{Vector}
use Rattle.lp_model.specs.Sparse.{dense, sparse_total}
use Rattle.lp_model.specs.Reductions.{Priced}
use Rattle.lp_rows.specs.MetEnds.{is_from_row}
use Rattle.lp_rows.specs.EmptyRow.{undo_empty_row}
use Rattle.lp_rows.specs.RedundantRow.{undo_redundant_row}
use Rattle.lp_rows.specs.SingletonRow.{undo_singleton_row}
use Rattle.lp_rows.specs.ForcingRow.{set_for_row}
use Rattle.lp_rows.specs.BoundTightening.{handed_to_row}
use Rattle.undo_records.specs.declared.side.Side.{Side}
use Rattle.undo_records.specs.declared.side.Side.TheVariants.{Lower, Upper}
use Rattle.undo_records.specs.declared.side.RowFate.{RowFate}
use Rattle.undo_records.specs.declared.side.RowFate.TheVariants.{Kept, Dropped}
use Rattle.undo_records.specs.declared.undo.Undo.{Undo}
use Rattle.undo_records.specs.declared.undo.Undo.TheVariants.{EmptyRow, RedundantRow, SingletonRow, FixedColumn, ForcingRow, BoundTightening, DoubletonEquation, FreeColumnSingleton, SlackColumnSingleton, ParallelRows, ParallelColumns}
use Rattle.undo_records.specs.Lift.{undone}

-- what is left of a column's cost c: its terms are its entries by row
abbrev pub cost_left : Number → List Term → Vector → Number
cost_left c ts y = c -ℚ sparse_total ts y

-- the greater of two numbers for the lower side, the less for the upper one
abbrev pub further : Side → Number → Number → Number
further Lower p q = max_ℚ p q
further Upper p q = min_ℚ p q

-- the greatest, or the least, of t and all z_k / a_k of the terms
abbrev pub furthest : Side → Number → List Term → Vector → Number
furthest side t [] z = t
furthest side t (e ∷ es) z = furthest side (further side t (z e.id /ℚ e.value)) es z

-- a reduced cost z that asks for this bound, where the value x isn't at it
abbrev pub is_off_bound : Side → Option Number → Number → Number → Bool
is_off_bound Lower b x z = lt_ℚ zero_ℚ z && not (same_end b (Some x))
is_off_bound Upper b x z = lt_ℚ z zero_ℚ && not (same_end b (Some x))

-- what row i leaves of the reduced cost z of column k, where the dual of the row is 0 and dj is left of column j's cost
abbrev pub joint_cost : Number → Number → Number → Number → Number
joint_cost a b dj z = z +ℚ (b /ℚ a) *ℚ dj

-- row i takes dk over where k holds its reduced cost z at an end that it has of j alone, else dj
abbrev pub equation_dual : Number → Number → Option Number → Option Number → Number → Number → Number → Number
equation_dual a b l u x z dj = if is_from_row l u x z then joint_cost a b dj z /ℚ b else dj /ℚ a

-- row i, a x_j + b x_k = r, has the dual t
abbrev pub with_equation : ℕ → ℕ → ℕ → Number → Number → Number → Number → Priced → Priced
with_equation i j k a b dj t p = record p { y = put p.y i t; z = put (put p.z j (dj -ℚ a *ℚ t)) k (joint_cost a b dj (p.z k) -ℚ b *ℚ t) }

abbrev pub undo_equation : ℕ → ℕ → ℕ → Number → Number → Option Number → Option Number → Number → Priced → Priced
undo_equation i j k a b l u dj p = with_equation i j k a b dj (equation_dual a b l u (p.x k) (p.z k) dj) p

-- where the side at which row k holds y_k came from row i, y_i = y_k / s and y_k = 0, else y_i = 0; v is the value of row k
abbrev pub undo_multiple : ℕ → ℕ → Number → Option Number → Option Number → Number → Priced → Priced
undo_multiple i k s L U v p =
    if is_from_row L U v (p.y k)
    then record p { y = put (put p.y k zero_ℚ) i (p.y k /ℚ s) }
    else record p { y = put p.y i zero_ℚ }

-- the dual of row i is t, the price of column j, and nothing is left of the cost of the column
abbrev pub with_price : ℕ → ℕ → Number → Priced → Priced
with_price i j t p = record p { y = put p.y i t; z = put p.z j zero_ℚ }

-- column j, with the entry a and the price t, was a slack of row i: where that was kept its dual grows by the price
abbrev pub undo_slack : RowFate → ℕ → ℕ → Number → Number → Priced → Priced
undo_slack Kept i j a t p = record p { y = put p.y i (p.y i +ℚ t); z = put p.z j (neg_ℚ (a *ℚ p.y i)) }
undo_slack Dropped i j a t p = with_price i j t p

-- where column j isn't at its old bound b, row i takes its reduced cost over
abbrev pub undo_bound : Side → ℕ → ℕ → Option Number → List Term → Priced → Priced
undo_bound side i j b ts p = if is_off_bound side b (p.x j) (p.z j) then handed_to_row i j (dense ts) p else p

-- what one undone record makes of duals and reduced costs, after the point
abbrev pub duals_undone : Undo → Priced → Priced
duals_undone (EmptyRow r) p = undo_empty_row r.row p
duals_undone (RedundantRow r) p = undo_redundant_row r.row p
duals_undone (SingletonRow r) p = undo_singleton_row r.row r.column r.value r.lower r.upper p
duals_undone (FixedColumn r) p = record p { z = put p.z r.column (cost_left r.cost r.entries p.y) }
duals_undone (ForcingRow r) p = set_for_row r.row (dense r.entries) (furthest r.side zero_ℚ r.entries p.z) p
duals_undone (BoundTightening r) p = undo_bound r.side r.row r.column r.bound r.entries p
duals_undone (DoubletonEquation r) p = undo_equation r.row r.column r.kept r.value r.kept_value r.lower r.upper (cost_left r.cost r.entries p.y) p
duals_undone (FreeColumnSingleton r) p = with_price r.row r.column r.price p
duals_undone (SlackColumnSingleton r) p = undo_slack r.fate r.row r.column r.value r.price p
duals_undone (ParallelRows r) p = undo_multiple r.row r.kept r.factor r.lower r.upper (sparse_total r.entries p.x) p
duals_undone (ParallelColumns r) p = record p { z = put p.z r.column (r.factor *ℚ p.z r.kept) }
duals_undone other p = p

-- the point of the pair is undone
abbrev pub point_undone : Undo → Priced → Priced
point_undone u p = record p { x = undone u p.x }

-- what one undone record makes of a pair: the point first
abbrev pub undone_pair : Undo → Priced → Priced
undone_pair u p = duals_undone u (point_undone u p)

-- LiftPair: the records, first applied first, are undone last first
abbrev pub lift_pair : List Undo → Priced → Priced
lift_pair [] p = p
lift_pair (u ∷ us) p = undone_pair u (lift_pair us p)
