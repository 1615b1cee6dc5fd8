-- When the numbers that undoing a pair computes have room in a kind of numbers.
use Rattle.std.specs.Prelude.{◌≢◌, ℕ, pred, ◌<◌, ◌≤◌, IsTrue, List, [], ◌∷◌, length, drop, Option, ⊤}
use Rattle.fractions.specs.Number.{Number, zero_ℚ, neg_ℚ, ◌*ℚ◌}
use Rattle.fractions.specs.Division.{◌/ℚ◌}
use Rattle.fractions.specs.Room.{Room}
use Rattle.lp_model.specs.declared.terms.Term.{Term}
use Rattle.lp_model.specs.Vectors.{Vector}
use Rattle.lp_model.specs.Sparse.{dense, sparse_total}
use Rattle.lp_model.specs.LinearProgram.{LinearProgram}
use Rattle.lp_model.specs.Reductions.{Priced}
use Rattle.lp_theory.specs.MetEnds.{is_from_row}
use Rattle.lp_prices.specs.Prices.{ReducedCostFitsIn}
use Rattle.undo_records.specs.declared.side.RowFate.{RowFate}
use Rattle.undo_records.specs.declared.side.RowFate.TheVariants.{Kept, Dropped}
use Rattle.undo_records.specs.declared.undo.Undo.{Undo}
use Rattle.undo_records.specs.declared.undo.Undo.TheVariants.{SingletonRow, FixedColumn, ForcingRow, BoundTightening, DoubletonEquation, SlackColumnSingleton, ParallelRows, ParallelColumns}
use Rattle.undo_records.specs.Fitting.{TermsFit, LessFits}
use Rattle.undo_records.specs.Room.{UndoFits}
use Rattle.undo_pairs.specs.LiftPair.{cost_left, furthest, is_off_bound, joint_cost, equation_dual, point_undone, lift_pair}

-- the reduced cost of column j is the first without room
pub record IsFirstPast (m : Room) (M : LinearProgram) (y : Vector) (j : ℕ) : Type 0 where
  pub within : j < M.columns
  pub before : (k : ℕ) → k < j → ReducedCostFitsIn m M y k
  pub here : ReducedCostFitsIn m M y j → ⊥

-- c less the sum of the terms
abbrev pub CostLeftFits : Room → Number → List Term → Vector → Type 0
CostLeftFits m c ts y = TermsFit m zero_ℚ ts y × m.sum c (neg_ℚ (sparse_total ts y))

-- each z_k / a_k of the terms
abbrev pub RatiosFit : Room → List Term → Vector → Type 0
RatiosFit m [] z = ⊤
RatiosFit m (e ∷ es) z = m.number (z e.id /ℚ e.value) × RatiosFit m es z

-- each z_k - a_k t of the terms
abbrev pub TakenFits : Room → List Term → Number → Vector → Type 0
TakenFits m [] t z = ⊤
TakenFits m (e ∷ es) t z = LessFits m (z e.id) e.value t × TakenFits m es t z

-- d = z_j / a_j and y + d, and each z_k - a_k d
abbrev pub HandedFits : Room → ℕ → List Term → Number → Vector → Type 0
HandedFits m j ts y z = m.number (z j /ℚ dense ts j) × m.sum y (z j /ℚ dense ts j) × TakenFits m ts (z j /ℚ dense ts j) z

-- z + (b/a) dj
abbrev pub JointFits : Room → Number → Number → Number → Number → Type 0
JointFits m a b dj z = m.number (b /ℚ a) × m.number ((b /ℚ a) *ℚ dj) × m.sum z ((b /ℚ a) *ℚ dj)

-- the dual t of the equation, and what it leaves of the costs of its two columns
abbrev pub EquationFits : Room → Number → Number → Option Number → Option Number → Number → Number → Number → Type 0
EquationFits m a b l u x z dj = JointFits m a b dj z × m.number (equation_dual a b l u x z dj)
    × LessFits m dj a (equation_dual a b l u x z dj) × LessFits m (joint_cost a b dj z) b (equation_dual a b l u x z dj)

-- the value of the kept row where its dual y isn't 0, and y / s where the row takes y over
abbrev pub MultipleFits : Room → Number → Option Number → Option Number → List Term → Vector → Number → Type 0
MultipleFits m s L U ts x y = (y ≢ zero_ℚ → TermsFit m zero_ℚ ts x) × (IsTrue (is_from_row L U (sparse_total ts x) y) → m.number (y /ℚ s))

-- a y and y + t, where the row was kept
abbrev pub SlackPriceFits : Room → RowFate → Number → Number → Number → Type 0
SlackPriceFits m Kept a t y = m.number (a *ℚ y) × m.sum y t
SlackPriceFits m Dropped a t y = ⊤

-- what one undone record computes of duals and reduced costs, after the point
abbrev pub DualsFit : Room → Undo → Priced → Type 0
DualsFit m (SingletonRow r) p = IsTrue (is_from_row r.lower r.upper (p.x r.column) (p.z r.column)) → m.number (p.z r.column /ℚ r.value)
DualsFit m (FixedColumn r) p = CostLeftFits m r.cost r.entries p.y
DualsFit m (ForcingRow r) p = RatiosFit m r.entries p.z × TakenFits m r.entries (furthest r.side zero_ℚ r.entries p.z) p.z
DualsFit m (BoundTightening r) p = IsTrue (is_off_bound r.side r.bound (p.x r.column) (p.z r.column)) → HandedFits m r.column r.entries (p.y r.row) p.z
DualsFit m (DoubletonEquation r) p = CostLeftFits m r.cost r.entries p.y × EquationFits m r.value r.kept_value r.lower r.upper (p.x r.kept) (p.z r.kept) (cost_left r.cost r.entries p.y)
DualsFit m (SlackColumnSingleton r) p = SlackPriceFits m r.fate r.value r.price (p.y r.row)
DualsFit m (ParallelRows r) p = MultipleFits m r.factor r.lower r.upper r.entries p.x (p.y r.kept)
DualsFit m (ParallelColumns r) p = m.number (r.factor *ℚ p.z r.kept)
DualsFit m other p = ⊤

-- what one undone record computes, the point first
abbrev pub PairFits : Room → Undo → Priced → Type 0
PairFits m u p = UndoFits m u p.x × DualsFit m u (point_undone u p)

-- the lift fits: each record, at what the records after it have made of the pair
abbrev pub LiftPairFits : Room → List Undo → Priced → Type 0
LiftPairFits m [] p = ⊤
LiftPairFits m (u ∷ us) p = LiftPairFits m us p × PairFits m u (lift_pair us p)

-- it stops at record number `at`, from 1 on: those after it fit, and with it they don't
pub record PairStopsAt (m : Room) (us : List Undo) (p : Priced) (at : ℕ) : Type 0 where
  pub within : at ≤ length us
  pub after : LiftPairFits m (drop at us) p
  pub here : LiftPairFits m (drop (pred at) us) p → ⊥
