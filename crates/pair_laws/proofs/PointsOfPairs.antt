-- The point of a pair is undone by itself.
use Rattle.std.proofs.Common.{◌≡◌, Bool, true, false, List, [], ◌∷◌, refl, ap, ◌∙◌, if◌then◌else◌}
use Rattle.lp_model.specs.Vectors.{Vector}
use Rattle.lp_model.specs.Reductions.{Priced}
use Rattle.lp_theory.specs.MetEnds.{is_from_row}
use Rattle.lp_model.specs.Sparse.{sparse_total}
use Rattle.undo_records.specs.declared.side.RowFate.{RowFate}
use Rattle.undo_records.specs.declared.side.RowFate.TheVariants.{Kept, Dropped}
use Rattle.undo_records.specs.declared.undo.Undo.{Undo}
use Rattle.undo_records.specs.declared.undo.Undo.TheVariants as kind
use Rattle.undo_records.specs.Lift.{lift, undone}
use Rattle.undo_pairs.specs.LiftPair.{duals_undone, is_off_bound, lift_pair, undo_slack, undone_pair}
use Rattle.fractions.specs.Number.{Number}
use Rattle.std.specs.Prelude.{ℕ}

either : (b : Bool) (p q : Priced) (x : Vector) → p.x ≡ x → q.x ≡ x → (if b then p else q).x ≡ x
either true p q x e f = e
either false p q x e f = f

slack : (fate : RowFate) (i j : ℕ) (a t : Number) (p : Priced) → (undo_slack fate i j a t p).x ≡ p.x
slack Kept i j a t p = refl
slack Dropped i j a t p = refl

point_stays : (u : Undo) (p : Priced) → (duals_undone u p).x ≡ p.x
point_stays (kind.EmptyRow r) p = refl
point_stays (kind.SingletonRow r) p = either (is_from_row r.lower r.upper (p.x r.column) (p.z r.column)) _ _ p.x refl refl
point_stays (kind.FixedColumn r) p = refl
point_stays (kind.RoundedBounds r) p = refl
point_stays (kind.RedundantRow r) p = refl
point_stays (kind.RedundantSide r) p = refl
point_stays (kind.ForcingRow r) p = refl
point_stays (kind.BoundTightening r) p = either (is_off_bound r.side r.bound (p.x r.column) (p.z r.column)) _ _ p.x refl refl
point_stays (kind.CoefficientTightening r) p = refl
point_stays (kind.DualFixing r) p = refl
point_stays (kind.DominatedColumn r) p = refl
point_stays (kind.DoubletonEquation r) p = refl
point_stays (kind.FreeColumnSingleton r) p = refl
point_stays (kind.SlackColumnSingleton r) p = slack r.fate r.row r.column r.value r.price p
point_stays (kind.ParallelRows r) p = either (is_from_row r.lower r.upper (sparse_total r.entries p.x) (p.y r.kept)) _ _ p.x refl refl
point_stays (kind.ParallelColumns r) p = refl
point_stays (kind.EmptyColumn r) p = refl

pub point_undone : (u : Undo) (p : Priced) → (undone_pair u p).x ≡ undone u p.x
point_undone u p = point_stays u (record p { x = undone u p.x })

pub point_lifted : (us : List Undo) (p : Priced) → (lift_pair us p).x ≡ lift us p.x
point_lifted [] p = refl
point_lifted (u ∷ us) p = point_undone u (lift_pair us p) ∙ ap (undone u) (point_lifted us p)

pub ruleset points_of_pairs = (point_undone, point_lifted)
