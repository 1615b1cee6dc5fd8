-- What undoing a record makes of weights is the step back of its reduction.
use Rattle.std.proofs.Common.{◌≡◌, ◌≢◌, ℕ, ◌<◌, List, sym, ap, ◌∙◌, subst, Bool, Option, None}
use Rattle.fractions.specs.Number.{Number, zero_ℚ, ◌-ℚ◌, ◌*ℚ◌}
use Rattle.fractions.specs.Division.{◌/ℚ◌}
use Rattle.fractions.specs.Total.{total, put}
use Rattle.fractions.specs.Ends.{meet_low, meet_high}
use Rattle.fractions.proofs.Totals.{put-same, put-other}
use Rattle.lp_model.specs.declared.terms.Term.{Term}
use Rattle.lp_model.specs.Vectors.{Vector}
use Rattle.lp_model.specs.LinearProgram.{LinearProgram}
use Rattle.lp_model.specs.Edits.{without_row}
use Rattle.lp_model.specs.Sparse.{Ascends, dense}
use Rattle.lp_theory.specs.Elsewhere.{IsColumnSingleton}
use Rattle.lp_rows.specs.SingletonRow.{IsSingletonRow, met_lower, met_upper, singleton_row_met}
use Rattle.lp_rows.specs.BoundTightening.{lower_bound_tightened, upper_bound_tightened}
use Rattle.lp_rows.specs.ForcingRow.{IsForcedAtLowerSide, IsForcedAtUpperSide, forced_at_lower_side, forced_at_upper_side}
use Rattle.lp_rows.specs.ParallelRows.{AreParallelRows, shared_lower, shared_upper, parallel_rows_joined}
use Rattle.lp_rows.specs.RedundantSide.{lower_side_dropped, upper_side_dropped}
use Rattle.lp_columns.specs.FixedColumn.{IsFixedColumn, fixed_column_deleted}
use Rattle.lp_columns.specs.DualFixing.{IsDualFixing, column_dual_fixed}
use Rattle.lp_columns.specs.DominatedColumn.{IsDominatedColumn, dominated_column_fixed}
use Rattle.lp_columns.specs.EmptyColumn.{IsEmptyColumn, empty_column_fixed}
use Rattle.lp_columns.specs.ParallelColumns.{AreParallelColumns, parallel_columns_joined}
use Rattle.lp_substitutions.specs.DoubletonEquation.{IsDoubletonEquation, image_lower, image_upper, doubleton_equation_substituted}
use Rattle.lp_substitutions.specs.FreeColumnSingleton.{free_column_singleton_deleted}
use Rattle.lp_substitutions.specs.SlackColumnSingleton.{slack_column_singleton_deleted, slack_row_deleted}
use Rattle.undo_records.specs.declared.side.Side.TheVariants.{Lower, Upper}
use Rattle.undo_records.specs.declared.side.RowFate.TheVariants.{Kept, Dropped}
use Rattle.lp_rays.specs.Ray.{Weights, StepsBack}
use Rattle.lp_rays.specs.Handing.{moved, handed_of, image_low_part, image_high_part}
use Rattle.lp_rays.specs.Steps.{ray_forced_at_lower_side, ray_forced_at_upper_side, ray_lower_bound, ray_upper_bound, ray_fixed_column, ray_doubleton_equation}
use Rattle.ray_rows.specs.ImpliedBound.{IsImpliedLowerBound, IsImpliedUpperBound}
use Rattle.lp_rays.proofs.Moving.{steps_of, row_back}
use Rattle.ray_rows.proofs.SingletonRow.{singleton_row_back}
use Rattle.ray_rows.proofs.BoundTightening.{lower_bound_back, upper_bound_back}
use Rattle.ray_rows.proofs.ForcingRow.{forced_low_back, forced_high_back}
use Rattle.ray_rows.proofs.ParallelRows.{parallel_rows_back, lower_side_back, upper_side_back}
use Rattle.ray_columns.proofs.DroppedColumn.{fixed_column_back, slack_column_back, slack_row_back, free_column_back}
use Rattle.ray_columns.proofs.PlacedColumn.{settled_back, dominated_settled_back, empty_column_back}
use Rattle.ray_columns.proofs.ParallelColumns.{parallel_columns_back}
use Rattle.ray_columns.proofs.DoubletonEquation.{doubleton_equation_back}
use Rattle.ray_steps.specs.StepBack.{weighed, weighed_in, take_net, take_ratios, take_equation}
use Rattle.pair_laws.specs.Records as records
use Rattle.lp_rays.proofs.Netting.{net_is}
use Rattle.ray_step_laws.proofs.Sums.{ratios_are}

-- two steps back that agree
pub agreeing : (M R : LinearProgram) (f g : Weights → Weights) → ((w : Weights) → f w ≡ g w) → StepsBack M R g → StepsBack M R f
agreeing M R f g e a = subst (λ (h : Weights → Weights). StepsBack M R h) (sym (λ t w. e w t)) a

module _ (low high : Bool) where
  pub empty_row : (M : LinearProgram) (i : ℕ) → i < M.rows → StepsBack M (without_row M i) (weighed (records.empty_row i) low high)
  empty_row M i l = steps_of _ _ (λ w. w) (λ w h. row_back M i w l h)

  pub redundant_row : (M : LinearProgram) (i : ℕ) → i < M.rows → StepsBack M (without_row M i) (weighed (records.redundant_row i) low high)
  redundant_row M i l = steps_of _ _ (λ w. w) (λ w h. row_back M i w l h)

  pub redundant_lower : (M : LinearProgram) (i : ℕ) → i < M.rows → StepsBack M (lower_side_dropped M i) (weighed (records.redundant_side i) low high)
  redundant_lower = lower_side_back

  pub redundant_upper : (M : LinearProgram) (i : ℕ) → i < M.rows → StepsBack M (upper_side_dropped M i) (weighed (records.redundant_side i) low high)
  redundant_upper = upper_side_back

  pub fixed_column : (M : LinearProgram) (j : ℕ) (x : Number) (ts : List Term) → IsFixedColumn M j x → Ascends 0 M.rows ts → dense ts ≡ (λ i. M.coefficient i j) → StepsBack M (fixed_column_deleted M j x) (weighed (records.fixed_column M j x ts) low high)
  fixed_column M j x ts d a e = agreeing _ _ _ (ray_fixed_column j M.rows (λ i. M.coefficient i j))
      (λ w. ap (λ g. take_net j g w) (net_is M.rows ts w a ∙ ap (λ (f : Vector). total M.rows (λ m. (w.s m -ℚ w.t m) *ℚ f m)) e))
      (fixed_column_back M j x d)

  pub forcing_lower : (M : LinearProgram) (i : ℕ) (ts : List Term) → IsForcedAtLowerSide M i → Ascends 0 M.columns ts → dense ts ≡ M.coefficient i → StepsBack M (forced_at_lower_side M i) (weighed (records.forcing_row i Lower ts) low high)
  forcing_lower M i ts d a e = agreeing _ _ _ (ray_forced_at_lower_side M.columns i (dense ts)) (λ w. ap (λ r. take_ratios Lower i ts r w) (ratios_are Lower M.columns ts w a))
      (subst (λ (f : Vector). StepsBack M (forced_at_lower_side M i) (ray_forced_at_lower_side M.columns i f)) (sym e) (forced_low_back M i d))

  pub forcing_upper : (M : LinearProgram) (i : ℕ) (ts : List Term) → IsForcedAtUpperSide M i → Ascends 0 M.columns ts → dense ts ≡ M.coefficient i → StepsBack M (forced_at_upper_side M i) (weighed (records.forcing_row i Upper ts) low high)
  forcing_upper M i ts d a e = agreeing _ _ _ (ray_forced_at_upper_side M.columns i (dense ts)) (λ w. ap (λ r. take_ratios Upper i ts r w) (ratios_are Upper M.columns ts w a))
      (subst (λ (f : Vector). StepsBack M (forced_at_upper_side M i) (ray_forced_at_upper_side M.columns i f)) (sym e) (forced_high_back M i d))

  pub lower_bound_tightening : (M : LinearProgram) (i j : ℕ) (ts : List Term) → IsImpliedLowerBound M i j → dense ts ≡ M.coefficient i → StepsBack M (lower_bound_tightened M i j) (weighed (records.lower_bound_tightening M i j ts) low high)
  lower_bound_tightening M i j ts d e = subst (λ (f : Vector). StepsBack M (lower_bound_tightened M i j) (ray_lower_bound i j f)) (sym e) (lower_bound_back M i j d)

  pub upper_bound_tightening : (M : LinearProgram) (i j : ℕ) (ts : List Term) → IsImpliedUpperBound M i j → dense ts ≡ M.coefficient i → StepsBack M (upper_bound_tightened M i j) (weighed (records.upper_bound_tightening M i j ts) low high)
  upper_bound_tightening M i j ts d e = subst (λ (f : Vector). StepsBack M (upper_bound_tightened M i j) (ray_upper_bound i j f)) (sym e) (upper_bound_back M i j d)

  pub dominated : (M : LinearProgram) (i j k : ℕ) (x : Number) → IsDominatedColumn M j k x → StepsBack M (dominated_column_fixed M k x) (weighed (records.dominated_column i j k) low high)
  dominated M i j k x d = dominated_settled_back M j k x d

  pub empty_column : (M : LinearProgram) (j : ℕ) (x : Number) → IsEmptyColumn M j x → StepsBack M (empty_column_fixed M j x) (weighed (records.empty_column j) low high)
  empty_column = empty_column_back

  pub free_column_singleton : (M : LinearProgram) (j i : ℕ) (x : Number) (ts : List Term) → IsColumnSingleton M j i → StepsBack M (free_column_singleton_deleted M j i) (weighed (records.free_column_singleton M j i x ts) low high)
  free_column_singleton M j i x ts d = free_column_back M j i d

  pub slack_kept : (M : LinearProgram) (j i : ℕ) (ts : List Term) → IsColumnSingleton M j i → StepsBack M (slack_column_singleton_deleted M j i) (weighed (records.slack_column_singleton M j i Kept ts) low high)
  slack_kept M j i ts d = slack_column_back M j i d

  pub slack_dropped : (M : LinearProgram) (j i : ℕ) (ts : List Term) → IsColumnSingleton M j i → StepsBack M (slack_row_deleted M j i) (weighed (records.slack_column_singleton M j i Dropped ts) low high)
  slack_dropped M j i ts d = slack_row_back M j i d

  pub parallel_columns : (M : LinearProgram) (j k : ℕ) (f : Number) → AreParallelColumns M j k f → StepsBack M (parallel_columns_joined M j k f) (weighed (records.parallel_columns M j k f) low high)
  parallel_columns = parallel_columns_back

  pub dual_fixing : (M : LinearProgram) (j : ℕ) (x : Number) → IsDualFixing M j x → StepsBack M (column_dual_fixed M j x) (weighed (records.dual_fixing j) low high)
  dual_fixing = settled_back

-- ---- where it matters which end moved
pub singleton_row : (M : LinearProgram) (i j : ℕ) → IsSingletonRow M i j → StepsBack M (singleton_row_met M i j) (weighed_in (records.singleton_row M i j) (singleton_row_met M i j))
singleton_row M i j d = subst (λ (l : Option Number). StepsBack M (singleton_row_met M i j) (weighed (records.singleton_row M i j) (moved (M.lower_bound j) l) (moved (M.upper_bound j) ((singleton_row_met M i j).upper_bound j)))) (sym (put-same M.lower_bound j (met_lower M i j)))
    (subst (λ (u : Option Number). StepsBack M (singleton_row_met M i j) (weighed (records.singleton_row M i j) (moved (M.lower_bound j) (met_lower M i j)) (moved (M.upper_bound j) u))) (sym (put-same M.upper_bound j (met_upper M i j)))
    (singleton_row_back M i j d))

pub parallel_rows : (M : LinearProgram) (i k : ℕ) (f : Number) (ts : List Term) → AreParallelRows M i k f → StepsBack M (parallel_rows_joined M i k f) (weighed_in (records.parallel_rows M i k f ts) (parallel_rows_joined M i k f))
parallel_rows M i k f ts d =
    let off : k ≢ i = λ e. d.apart (sym e) in
    subst (λ (l : Option Number). StepsBack M (parallel_rows_joined M i k f) (weighed (records.parallel_rows M i k f ts) (moved (M.lower_side k) l) (moved (M.upper_side k) ((parallel_rows_joined M i k f).upper_side k))))
    (sym (put-other (put M.lower_side k (shared_lower M i k f)) i None k off ∙ put-same M.lower_side k (shared_lower M i k f)))
    (subst (λ (u : Option Number). StepsBack M (parallel_rows_joined M i k f) (weighed (records.parallel_rows M i k f ts) (moved (M.lower_side k) (shared_lower M i k f)) (moved (M.upper_side k) u)))
    (sym (put-other (put M.upper_side k (shared_upper M i k f)) i None k off ∙ put-same M.upper_side k (shared_upper M i k f)))
    (parallel_rows_back M i k f d))

doubleton_equation_by : (M : LinearProgram) (i j k : ℕ) (x : Number) (ts : List Term) → IsDoubletonEquation M i j k x → Ascends 0 M.rows ts → dense ts ≡ put (λ m. M.coefficient m j) i zero_ℚ
    → StepsBack M (doubleton_equation_substituted M i j k x) (weighed (records.doubleton_equation M i j k x ts)
    (moved (M.lower_bound k) (meet_low (M.lower_bound k) (image_lower (M.coefficient i j) (M.coefficient i k) x (M.lower_bound j) (M.upper_bound j))))
    (moved (M.upper_bound k) (meet_high (M.upper_bound k) (image_upper (M.coefficient i j) (M.coefficient i k) x (M.lower_bound j) (M.upper_bound j)))))
doubleton_equation_by M i j k x ts d a e =
    let low : Bool = moved (M.lower_bound k) (meet_low (M.lower_bound k) (image_lower (M.coefficient i j) (M.coefficient i k) x (M.lower_bound j) (M.upper_bound j))) in
    let high : Bool = moved (M.upper_bound k) (meet_high (M.upper_bound k) (image_upper (M.coefficient i j) (M.coefficient i k) x (M.lower_bound j) (M.upper_bound j))) in
    agreeing _ _ _ (ray_doubleton_equation i j k (M.coefficient i j) (M.coefficient i k) M.rows (put (λ m. M.coefficient m j) i zero_ℚ) low high)
    (λ w. ap (λ g. take_equation i j k (M.coefficient i j)
    (image_low_part (M.coefficient i j /ℚ M.coefficient i k) (handed_of low (w.p k)) (handed_of high (w.q k)))
    (image_high_part (M.coefficient i j /ℚ M.coefficient i k) (handed_of low (w.p k)) (handed_of high (w.q k))) g low high w)
    (net_is M.rows ts w a ∙ ap (λ (f : Vector). total M.rows (λ m. (w.s m -ℚ w.t m) *ℚ f m)) e))
    (doubleton_equation_back M i j k x d)

pub doubleton_equation : (M : LinearProgram) (i j k : ℕ) (x : Number) (ts : List Term) → IsDoubletonEquation M i j k x → Ascends 0 M.rows ts → dense ts ≡ put (λ m. M.coefficient m j) i zero_ℚ
    → StepsBack M (doubleton_equation_substituted M i j k x) (weighed_in (records.doubleton_equation M i j k x ts) (doubleton_equation_substituted M i j k x))
doubleton_equation M i j k x ts d a e =
    let R : LinearProgram = doubleton_equation_substituted M i j k x in
    let lo : Option Number = meet_low (M.lower_bound k) (image_lower (M.coefficient i j) (M.coefficient i k) x (M.lower_bound j) (M.upper_bound j)) in
    let hi : Option Number = meet_high (M.upper_bound k) (image_upper (M.coefficient i j) (M.coefficient i k) x (M.lower_bound j) (M.upper_bound j)) in
    subst (λ (l : Option Number). StepsBack M R (weighed (records.doubleton_equation M i j k x ts) (moved (M.lower_bound k) l) (moved (M.upper_bound k) (R.upper_bound k)))) (sym (put-same (put M.lower_bound j None) k lo))
    (subst (λ (u : Option Number). StepsBack M R (weighed (records.doubleton_equation M i j k x ts) (moved (M.lower_bound k) lo) (moved (M.upper_bound k) u))) (sym (put-same (put M.upper_bound j None) k hi))
    (doubleton_equation_by M i j k x ts d a e))
