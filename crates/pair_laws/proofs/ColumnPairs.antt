-- Each reduction of columns, with its record's undoing of pairs.
use Rattle.std.proofs.Common.{◌≡◌, ℕ, refl, ap, ◌∙◌}
use Rattle.std.specs.Prelude.{List}
use Rattle.fractions.specs.Number.{Number, zero_ℚ}
use Rattle.fractions.specs.Division.{◌/ℚ◌}
use Rattle.fractions.specs.Total.{put}
use Rattle.lp_model.specs.declared.program.Sense.TheVariants.{Min}
use Rattle.lp_model.specs.declared.terms.Term.{Term}
use Rattle.lp_model.specs.LinearProgram.{LinearProgram}
use Rattle.lp_model.specs.Optimality.{Continuous}
use Rattle.lp_model.specs.Reductions.{ReducesPairs}
use Rattle.lp_model.specs.Sparse.{Ascends, dense}
use Rattle.lp_model.specs.Vectors.{Vector}
use Rattle.lp_columns.specs.FixedColumn.{IsFixedColumn, fixed_column_deleted, undo_fixed_column_pair}
use Rattle.lp_columns.specs.RoundedBounds.{IsWholeColumn, bounds_rounded}
use Rattle.lp_columns.specs.EmptyColumn.{IsEmptyColumn, empty_column_fixed}
use Rattle.lp_columns.specs.DualFixing.{IsDualFixing, column_dual_fixed}
use Rattle.lp_columns.specs.DominatedColumn.{IsDominatedColumn, dominated_column_fixed}
use Rattle.lp_columns.specs.ParallelColumns.{AreParallelColumns, parallel_columns_joined, undo_parallel_columns_pair}
use Rattle.lp_columns.proofs.FixedColumn.{fixed_column_pairs}
use Rattle.lp_columns.proofs.EmptyColumn.{empty_column_pairs}
use Rattle.lp_columns.proofs.DualFixing.{dual_fixing_pairs}
use Rattle.lp_columns.proofs.DominatedColumn.{dominated_column_pairs}
use Rattle.lp_columns.proofs.ParallelPairs.{parallel_columns_pairs}
use Rattle.lp_substitutions.specs.DoubletonEquation.{IsDoubletonEquation, doubleton_equation_substituted, doubleton_equation_pair, undo_doubleton_equation_pair}
use Rattle.lp_substitutions.specs.FreeColumnSingleton.{IsFreeColumnSingleton, free_column_singleton_deleted, free_column_singleton_pair, undo_free_column_singleton_pair}
use Rattle.lp_substitutions.specs.SlackColumnSingleton.{IsSlackColumnSingleton, IsRowLeftFree, slack_column_singleton_deleted, slack_row_deleted, slack_kept_pair, slack_dropped_pair, undo_slack_column_singleton_kept, undo_slack_column_singleton_dropped}
use Rattle.lp_substitutions.proofs.DoubletonEquationPairs.{doubleton_equation_pairs}
use Rattle.lp_substitutions.proofs.FreeColumnSingleton.{free_column_singleton_pairs}
use Rattle.lp_substitutions.proofs.SlackColumnSingleton.{slack_kept_pairs, slack_dropped_pairs}
use Rattle.undo_records.specs.declared.side.RowFate.TheVariants.{Kept, Dropped}
use Rattle.undo_pairs.specs.LiftPair.{undone_pair}
use Rattle.pair_laws.specs.Records.{fixed_column, rounded_bounds, dual_fixing, dominated_column, doubleton_equation, free_column_singleton, slack_column_singleton, parallel_columns, empty_column}
use Rattle.pair_laws.proofs.ColumnLaws.{fixed, equation, free, kept, dropped, merged}
use Rattle.pair_laws.proofs.SenseLaws.{agreeing, with_whole_column}

pub fixed_column_pair : (M : LinearProgram) (j : ℕ) (v : Number) (ts : List Term) → Continuous M → IsFixedColumn M j v → Ascends 0 M.rows ts → dense ts ≡ (λ i. M.coefficient i j) → ReducesPairs Min M (fixed_column_deleted M j v) (undone_pair (fixed_column M j v ts))
fixed_column_pair M j v ts continuous e a d = agreeing Min M (fixed_column_deleted M j v) (undone_pair (fixed_column M j v ts)) (undo_fixed_column_pair M j v) (λ p. fixed M (record { column = j; value = v; cost = M.costs j; entries = ts }) p refl a d) (fixed_column_pairs M j v e continuous)

pub rounded_bounds_pair : (M : LinearProgram) (j : ℕ) → IsWholeColumn M j → ReducesPairs Min M (bounds_rounded M j) (undone_pair (rounded_bounds j))
rounded_bounds_pair M j e = with_whole_column Min M (bounds_rounded M j) (undone_pair (rounded_bounds j)) j e.column e.whole

pub cost_pair : (M : LinearProgram) (j : ℕ) (v : Number) → IsDualFixing M j v → ReducesPairs Min M (column_dual_fixed M j v) (undone_pair (dual_fixing j))
cost_pair M j v e = agreeing Min M (column_dual_fixed M j v) (undone_pair (dual_fixing j)) (λ p. p) (λ p. refl) (dual_fixing_pairs M j v e)

pub dominated_column_pair : (M : LinearProgram) (i j k : ℕ) (v : Number) → IsDominatedColumn M j k v → ReducesPairs Min M (dominated_column_fixed M k v) (undone_pair (dominated_column i j k))
dominated_column_pair M i j k v e = agreeing Min M (dominated_column_fixed M k v) (undone_pair (dominated_column i j k)) (λ p. p) (λ p. refl) (dominated_column_pairs M j k v e)

pub empty_column_pair : (M : LinearProgram) (j : ℕ) (v : Number) → IsEmptyColumn M j v → ReducesPairs Min M (empty_column_fixed M j v) (undone_pair (empty_column j))
empty_column_pair M j v e = agreeing Min M (empty_column_fixed M j v) (undone_pair (empty_column j)) (λ p. p) (λ p. refl) (empty_column_pairs M j v e)

pub equation_pair : (M : LinearProgram) (i j k : ℕ) (r : Number) (ts : List Term) → IsDoubletonEquation M i j k r → Ascends 0 M.rows ts → dense ts ≡ put (λ m. M.coefficient m j) i zero_ℚ
    → ReducesPairs Min M (doubleton_equation_substituted M i j k r) (undone_pair (doubleton_equation M i j k r ts))
equation_pair M i j k r ts e a d = agreeing Min M (doubleton_equation_substituted M i j k r)
    (undone_pair (doubleton_equation M i j k r ts)) (doubleton_equation_pair M i j k r)
    (λ p. equation M.rows (record { row = i; column = j; kept = k; value = M.coefficient i j; kept_value = M.coefficient i k; equal = r; lower = M.lower_bound k; upper = M.upper_bound k; cost = M.costs j; entries = ts }) p a e.apart
    ∙ ap (λ (f : Vector). undo_doubleton_equation_pair i j k (M.coefficient i j) (M.coefficient i k) r (M.lower_bound k) (M.upper_bound k) (M.costs j) M.rows f p) d)
    (doubleton_equation_pairs M i j k r e)

pub free_pair : (M : LinearProgram) (j i : ℕ) (s : Number) (ts : List Term) → IsFreeColumnSingleton M j i s → Ascends 0 M.columns ts → dense ts ≡ put (M.coefficient i) j zero_ℚ
    → ReducesPairs Min M (free_column_singleton_deleted M j i) (undone_pair (free_column_singleton M j i s ts))
free_pair M j i s ts e a d = agreeing Min M (free_column_singleton_deleted M j i) (undone_pair (free_column_singleton M j i s ts)) (free_column_singleton_pair M j i s)
    (λ p. free M.columns (record { column = j; row = i; value = M.coefficient i j; at = s; price = M.costs j /ℚ M.coefficient i j; entries = ts }) p a ∙ ap (λ (f : Vector). undo_free_column_singleton_pair j i (M.coefficient i j) s (M.costs j /ℚ M.coefficient i j) M.columns f p) d)
    (free_column_singleton_pairs M j i s e)

pub slack_kept : (M : LinearProgram) (j i : ℕ) (ts : List Term) → IsSlackColumnSingleton M j i → Ascends 0 M.columns ts → dense ts ≡ put (M.coefficient i) j zero_ℚ
    → ReducesPairs Min M (slack_column_singleton_deleted M j i) (undone_pair (slack_column_singleton M j i Kept ts))
slack_kept M j i ts e a d = agreeing Min M (slack_column_singleton_deleted M j i) (undone_pair (slack_column_singleton M j i Kept ts)) (slack_kept_pair M j i)
    (λ p. kept M.columns (record { column = j; row = i; value = M.coefficient i j; price = M.costs j /ℚ M.coefficient i j; lower_side = M.lower_side i; upper_side = M.upper_side i; lower = M.lower_bound j; upper = M.upper_bound j; fate = Kept; entries = ts }) p refl a ∙ ap (λ (f : Vector). undo_slack_column_singleton_kept j i (M.coefficient i j) (M.costs j /ℚ M.coefficient i j) (M.lower_side i) (M.upper_side i) (M.lower_bound j) (M.upper_bound j) M.columns f p) d)
    (slack_kept_pairs M j i e)

pub slack_dropped : (M : LinearProgram) (j i : ℕ) (ts : List Term) → IsRowLeftFree M j i → Ascends 0 M.columns ts → dense ts ≡ put (M.coefficient i) j zero_ℚ
    → ReducesPairs Min M (slack_row_deleted M j i) (undone_pair (slack_column_singleton M j i Dropped ts))
slack_dropped M j i ts e a d = agreeing Min M (slack_row_deleted M j i) (undone_pair (slack_column_singleton M j i Dropped ts)) (slack_dropped_pair M j i)
    (λ p. dropped M.columns (record { column = j; row = i; value = M.coefficient i j; price = M.costs j /ℚ M.coefficient i j; lower_side = M.lower_side i; upper_side = M.upper_side i; lower = M.lower_bound j; upper = M.upper_bound j; fate = Dropped; entries = ts }) p refl a ∙ ap (λ (f : Vector). undo_slack_column_singleton_dropped j i (M.coefficient i j) (M.costs j /ℚ M.coefficient i j) (M.lower_side i) (M.upper_side i) (M.lower_bound j) (M.upper_bound j) M.columns f p) d)
    (slack_dropped_pairs M j i e)

pub parallel_columns_pair : (M : LinearProgram) (j k : ℕ) (s : Number) → AreParallelColumns M j k s → ReducesPairs Min M (parallel_columns_joined M j k s) (undone_pair (parallel_columns M j k s))
parallel_columns_pair M j k s e = agreeing Min M (parallel_columns_joined M j k s) (undone_pair (parallel_columns M j k s)) (undo_parallel_columns_pair j k s (M.lower_bound j) (M.upper_bound j) (M.lower_bound k) (M.upper_bound k)) (merged (record { column = j; kept = k; factor = s; lower = M.lower_bound j; upper = M.upper_bound j; kept_lower = M.lower_bound k; kept_upper = M.upper_bound k })) (parallel_columns_pairs M j k s e)
