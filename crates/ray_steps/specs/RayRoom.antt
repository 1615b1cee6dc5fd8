-- When the numbers that undoing computes of the weights of a ray have room.
use Rattle.std.specs.Prelude.{ℕ, Bool, ◌||◌, IsTrue, pred, ◌≤◌, length, drop, List, [], ◌∷◌, Some, None, ⊤}
use Rattle.fractions.specs.Number.{Number, zero_ℚ, neg_ℚ, ◌+ℚ◌, ◌-ℚ◌}
use Rattle.fractions.specs.Compare.{lt_ℚ}
use Rattle.fractions.specs.Division.{◌/ℚ◌}
use Rattle.fractions.specs.Lowest.{Fits}
use Rattle.fractions.specs.FracWords.{SumFits}
use Rattle.lp_model.specs.declared.terms.Term.{Term}
use Rattle.lp_model.specs.Sparse.{dense}
use Rattle.undo_records.specs.declared.side.Side.{Side}
use Rattle.undo_records.specs.declared.side.Side.TheVariants.{Lower, Upper}
use Rattle.undo_records.specs.declared.side.RowFate.{RowFate}
use Rattle.undo_records.specs.declared.side.RowFate.TheVariants.{Kept, Dropped}
use Rattle.undo_records.specs.declared.undo.Undo.{Undo}
use Rattle.undo_records.specs.declared.undo.Undo.TheVariants.{SingletonRow, FixedColumn, ForcingRow, BoundTightening, DualFixing, DominatedColumn, DoubletonEquation, SlackColumnSingleton, ParallelRows, ParallelColumns}
use Rattle.lp_rays.specs.Ray.{Weights}
use Rattle.ray_steps.specs.declared.shift.Shift.{Shift}
use Rattle.ray_steps.specs.declared.shift.Shift.TheVariants.{Push, Pull, ForceLower, ForceUpper}
use Rattle.ray_steps.specs.Shifts.{either_of, ShiftsFit}
use Rattle.lp_rays.specs.Nets.{net_of, NetFits}
use Rattle.lp_rays.specs.Handing.{handed_of, lower_share, upper_share, lower_part, upper_part, image_low_part, image_high_part}
use Rattle.ray_steps.specs.StepBack.{StepBack, ratio, ratios, equation_share, lift_ray}

-- two shares, or two parts
abbrev pub BothFit : Number → Number → Type 0
BothFit x y = Fits x × Fits y

-- r plus the terms' ratios: each quotient and each sum
abbrev pub RatiosFit : Side → Number → List Term → Weights → Type 0
RatiosFit side r [] w = ⊤
RatiosFit side r (e ∷ es) w = (Fits (ratio side e.value (w.p e.id) (w.q e.id)) × SumFits r (ratio side e.value (w.p e.id) (w.q e.id))) × RatiosFit side (r +ℚ ratio side e.value (w.p e.id) (w.q e.id)) es w

-- how a forcing row shifts its columns
abbrev pub forcing : Side → Shift
forcing Lower = ForceLower
forcing Upper = ForceUpper

-- K7: the sum of the ratios, and what the columns make of it
abbrev pub ForcingFits : Side → List Term → Weights → Type 0
ForcingFits side ts w = RatiosFit side zero_ℚ ts w × ShiftsFit (forcing side) None ts (ratios side ts w) w

-- d = the weight over the size of the entry a, and what the row and the others take of it
abbrev pub PushedFits : ℕ → ℕ → List Term → Number → Weights → Type 0
PushedFits i j ts d w = Fits d × SumFits (w.s i) d × ShiftsFit Push (Some j) ts d w

abbrev pub PulledFits : ℕ → ℕ → List Term → Number → Weights → Type 0
PulledFits i j ts d w = Fits d × SumFits (w.t i) d × ShiftsFit Pull (Some j) ts d w

abbrev pub BoundFits : Side → ℕ → ℕ → List Term → Weights → Type 0
BoundFits Lower i j ts w = either_of (lt_ℚ zero_ℚ (dense ts j)) (PushedFits i j ts (w.p j /ℚ dense ts j) w) (PulledFits i j ts (w.p j /ℚ neg_ℚ (dense ts j)) w)
BoundFits Upper i j ts w = either_of (lt_ℚ zero_ℚ (dense ts j)) (PulledFits i j ts (w.q j /ℚ dense ts j) w) (PushedFits i j ts (w.q j /ℚ neg_ℚ (dense ts j)) w)

-- the parts of the column, the net of the other rows, and the equation's share of both
abbrev pub EquationFits : Number → Number → Number → Number → Type 0
EquationFits a p q g = SumFits q (neg_ℚ p) × SumFits (q -ℚ p) (neg_ℚ g) × Fits (equation_share a p q g)

abbrev pub SidesFit : RowFate → ℕ → Number → Weights → Type 0
SidesFit Kept i a w = BothFit (lower_part a (w.t i) (w.s i)) (upper_part a (w.t i) (w.s i))
SidesFit Dropped i a w = ⊤

-- what one undone record computes. Of an end that did not move nothing is handed, and then a / b is not computed either.
abbrev pub WeighedFits : Undo → Bool → Bool → Weights → Type 0
WeighedFits (SingletonRow r) low high w = BothFit (lower_share r.value (handed_of low (w.p r.column)) (handed_of high (w.q r.column))) (upper_share r.value (handed_of low (w.p r.column)) (handed_of high (w.q r.column)))
WeighedFits (FixedColumn r) low high w = NetFits zero_ℚ r.entries w
WeighedFits (ForcingRow r) low high w = ForcingFits r.side r.entries w
WeighedFits (BoundTightening r) low high w = BoundFits r.side r.row r.column r.entries w
WeighedFits (DualFixing r) low high w = SumFits (w.p r.column) (neg_ℚ (w.q r.column))
WeighedFits (DominatedColumn r) low high w = SumFits (w.p r.column) (neg_ℚ (w.q r.column))
WeighedFits (DoubletonEquation r) low high w = (IsTrue (low || high) → Fits (r.value /ℚ r.kept_value))
    × BothFit (image_low_part (r.value /ℚ r.kept_value) (handed_of low (w.p r.kept)) (handed_of high (w.q r.kept))) (image_high_part (r.value /ℚ r.kept_value) (handed_of low (w.p r.kept)) (handed_of high (w.q r.kept)))
    × NetFits zero_ℚ r.entries w
    × EquationFits r.value (image_low_part (r.value /ℚ r.kept_value) (handed_of low (w.p r.kept)) (handed_of high (w.q r.kept))) (image_high_part (r.value /ℚ r.kept_value) (handed_of low (w.p r.kept)) (handed_of high (w.q r.kept))) (net_of r.entries w)
WeighedFits (SlackColumnSingleton r) low high w = SidesFit r.fate r.row r.value w
WeighedFits (ParallelRows r) low high w = BothFit (lower_share r.factor (handed_of low (w.s r.kept)) (handed_of high (w.t r.kept))) (upper_share r.factor (handed_of low (w.s r.kept)) (handed_of high (w.t r.kept)))
WeighedFits (ParallelColumns r) low high w = BothFit (lower_part r.factor (w.p r.kept) (w.q r.kept)) (upper_part r.factor (w.p r.kept) (w.q r.kept))
WeighedFits other low high w = ⊤

-- the lift fits: each step, at what the steps after it have made of the weights
abbrev pub LiftFits : List StepBack → Weights → Type 0
LiftFits [] w = ⊤
LiftFits (u ∷ us) w = LiftFits us w × WeighedFits u.undo u.low u.high (lift_ray us w)

-- it stops at step number `at`, from 1 on: those after it fit, and with it they don't
pub record RayStopsAt (us : List StepBack) (w : Weights) (at : ℕ) : Type 0 where
  pub within : at ≤ length us
  pub after : LiftFits (drop at us) w
  pub here : LiftFits (drop (pred at) us) w → ⊥
