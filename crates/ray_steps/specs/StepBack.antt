-- What undoing makes of the weights of a ray: s and t for each original row, p and q for each original column.
use Rattle.std.specs.Prelude.{ℕ, Bool, false, List, [], ◌∷◌, if◌then◌else◌}
use Rattle.fractions.specs.Number.{Number, zero_ℚ, neg_ℚ, ◌+ℚ◌, ◌-ℚ◌}
use Rattle.fractions.specs.Compare.{lt_ℚ}
use Rattle.fractions.specs.Division.{◌/ℚ◌}
use Rattle.fractions.specs.Total.{put}
use Rattle.lp_model.specs.declared.terms.Term.{Term}
use Rattle.lp_model.specs.LinearProgram.{LinearProgram}
use Rattle.lp_model.specs.Sparse.{dense}
use Rattle.undo_records.specs.declared.side.Side.{Side}
use Rattle.undo_records.specs.declared.side.Side.TheVariants.{Lower, Upper}
use Rattle.undo_records.specs.declared.side.RowFate.{RowFate}
use Rattle.undo_records.specs.declared.side.RowFate.TheVariants.{Kept, Dropped}
use Rattle.undo_records.specs.declared.undo.Undo.{Undo}
use Rattle.undo_records.specs.declared.undo.Undo.TheVariants.{SingletonRow, FixedColumn, ForcingRow, BoundTightening, DualFixing, DominatedColumn, DoubletonEquation, SlackColumnSingleton, ParallelRows, ParallelColumns, EmptyColumn}
use Rattle.lp_rays.specs.Ray.{Weights}
use Rattle.lp_rays.specs.Nets.{net_of}
use Rattle.lp_rays.specs.Handing.{moved, kept_of, handed_of, image_low_part, image_high_part, ratio_at_greatest, low_at_greatest, high_at_greatest, ratio_at_least, low_at_least, high_at_least}
use Rattle.lp_rays.specs.Steps.{ray_singleton_row, ray_lower_bound, ray_upper_bound, ray_settled, ray_empty_column, ray_parallel_rows, ray_parallel_columns, ray_slack_column_singleton}

-- K3: column j takes the net g of its rows
abbrev pub take_net : ℕ → Number → Weights → Weights
take_net j g w = record w { p = put w.p j (if lt_ℚ zero_ℚ g then zero_ℚ else neg_ℚ g); q = put w.q j (if lt_ℚ zero_ℚ g then g else zero_ℚ) }

-- K7: what the row has to take of a column
abbrev pub ratio : Side → Number → Number → Number → Number
ratio Lower a p q = ratio_at_greatest a p q
ratio Upper a p q = ratio_at_least a p q

abbrev pub ratios : Side → List Term → Weights → Number
ratios side [] w = zero_ℚ
ratios side (e ∷ es) w = ratio side e.value (w.p e.id) (w.q e.id) +ℚ ratios side es w

-- row i takes d, and its columns the rest
abbrev pub take_ratios : Side → ℕ → List Term → Number → Weights → Weights
take_ratios Lower i ts d w = record { s = put w.s i d; t = w.t; p = λ k. low_at_greatest (dense ts k) d (w.p k) (w.q k); q = λ k. high_at_greatest (dense ts k) d (w.p k) (w.q k) }
take_ratios Upper i ts d w = record { s = w.s; t = put w.t i d; p = λ k. low_at_least (dense ts k) d (w.p k) (w.q k); q = λ k. high_at_least (dense ts k) d (w.p k) (w.q k) }

-- K8
abbrev pub hand_bound : Side → ℕ → ℕ → List Term → Weights → Weights
hand_bound Lower i j ts w = ray_lower_bound i j (dense ts) w
hand_bound Upper i j ts w = ray_upper_bound i j (dense ts) w

-- K12: column j has the weights p and q, and row i what g, the net of the other rows, leaves of them
abbrev pub equation_share : Number → Number → Number → Number → Number
equation_share a p q g = ((q -ℚ p) -ℚ g) /ℚ a

abbrev pub take_equation : ℕ → ℕ → ℕ → Number → Number → Number → Number → Bool → Bool → Weights → Weights
take_equation i j k a p q g low high w = record {
  s = put w.s i (if lt_ℚ zero_ℚ (equation_share a p q g) then equation_share a p q g else zero_ℚ);
  t = put w.t i (if lt_ℚ zero_ℚ (equation_share a p q g) then zero_ℚ else neg_ℚ (equation_share a p q g));
  p = put (put w.p j p) k (kept_of low (w.p k));
  q = put (put w.q j q) k (kept_of high (w.q k));
}

-- K14: a row that was kept gives the column the weights of its sides
abbrev pub take_sides : RowFate → ℕ → ℕ → Number → Weights → Weights
take_sides Kept j i a w = ray_slack_column_singleton j i a w
take_sides Dropped j i a w = w

-- what one undone record makes of the weights
abbrev pub weighed : Undo → Bool → Bool → Weights → Weights
weighed (SingletonRow r) low high w = ray_singleton_row r.row r.column r.value low high w
weighed (FixedColumn r) low high w = take_net r.column (net_of r.entries w) w
weighed (ForcingRow r) low high w = take_ratios r.side r.row r.entries (ratios r.side r.entries w) w
weighed (BoundTightening r) low high w = hand_bound r.side r.row r.column r.entries w
weighed (DualFixing r) low high w = ray_settled r.column w
weighed (DominatedColumn r) low high w = ray_settled r.column w
weighed (DoubletonEquation r) low high w = take_equation r.row r.column r.kept r.value
    (image_low_part (r.value /ℚ r.kept_value) (handed_of low (w.p r.kept)) (handed_of high (w.q r.kept)))
    (image_high_part (r.value /ℚ r.kept_value) (handed_of low (w.p r.kept)) (handed_of high (w.q r.kept))) (net_of r.entries w) low high w
weighed (SlackColumnSingleton r) low high w = take_sides r.fate r.column r.row r.value w
weighed (ParallelRows r) low high w = ray_parallel_rows r.row r.kept r.factor low high w
weighed (ParallelColumns r) low high w = ray_parallel_columns r.column r.kept r.factor w
weighed (EmptyColumn r) low high w = ray_empty_column r.column w
weighed other low high w = w

-- whether the lower, and the upper, of the two ends that a reduction met with others moved: those of the column of K2, of the kept column of
-- K12, of the kept row of K15. The record has them as they were, and R, the program after, as they are.
abbrev pub low_moved : Undo → LinearProgram → Bool
low_moved (SingletonRow r) R = moved r.lower (R.lower_bound r.column)
low_moved (DoubletonEquation r) R = moved r.lower (R.lower_bound r.kept)
low_moved (ParallelRows r) R = moved r.lower (R.lower_side r.kept)
low_moved other R = false

abbrev pub high_moved : Undo → LinearProgram → Bool
high_moved (SingletonRow r) R = moved r.upper (R.upper_bound r.column)
high_moved (DoubletonEquation r) R = moved r.upper (R.upper_bound r.kept)
high_moved (ParallelRows r) R = moved r.upper (R.upper_side r.kept)
high_moved other R = false

-- what undoing a record, after which R stands, makes of the weights
abbrev pub weighed_in : Undo → LinearProgram → Weights → Weights
weighed_in u R w = weighed u (low_moved u R) (high_moved u R) w

-- a record with what has to be known of the program after it
pub record StepBack : Type 0 where
  pub undo : Undo
  pub low : Bool
  pub high : Bool

abbrev pub step_of : Undo → LinearProgram → StepBack
step_of u R = record { undo = u; low = low_moved u R; high = high_moved u R }

-- the steps, first applied first, are undone last first
abbrev pub lift_ray : List StepBack → Weights → Weights
lift_ray [] w = w
lift_ray (u ∷ us) w = weighed u.undo u.low u.high (lift_ray us w)
