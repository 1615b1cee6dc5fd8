-- Each reduction of rows, with its record's undoing of pairs.
use Rattle.std.proofs.Common.{◌≡◌, ℕ, refl, ap, ◌∙◌}
use Rattle.fractions.specs.Number.{Number}
use Rattle.lp_model.specs.declared.program.Sense.TheVariants.{Min}
use Rattle.lp_model.specs.declared.terms.Term.{Term}
use Rattle.lp_model.specs.LinearProgram.{LinearProgram}
use Rattle.lp_model.specs.Reductions.{ReducesPairs}
use Rattle.lp_model.specs.Sparse.{Ascends, dense}
use Rattle.lp_model.specs.Vectors.{Vector}
use Rattle.std.specs.Prelude.{List}
use Rattle.lp_rows.specs.EmptyRow.{IsEmptyRow, undo_empty_row, empty_row_deleted}
use Rattle.lp_rows.specs.SingletonRow.{IsSingletonRow, undo_singleton_row, singleton_row_met}
use Rattle.lp_rows.specs.RedundantRow.{IsRedundantRow, undo_redundant_row, redundant_row_deleted}
use Rattle.lp_rows.specs.RedundantSide.{IsRedundantLowerSide, IsRedundantUpperSide, lower_side_dropped, upper_side_dropped}
use Rattle.lp_rows.specs.ForcingRow.{IsForcedAtLowerSide, IsForcedAtUpperSide, forced_at_lower_side, forced_at_upper_side, undo_forced_at_lower_side, undo_forced_at_upper_side}
use Rattle.lp_rows.specs.BoundTightening.{IsLowerBoundTightening, IsUpperBoundTightening, lower_bound_tightened, upper_bound_tightened, undo_lower_bound_tightened, undo_upper_bound_tightened}
use Rattle.lp_rows.specs.CoefficientTightening.{IsCoefficientTightening, OneSide, Tightening, coefficient_tightened}
use Rattle.lp_rows.specs.ParallelRows.{AreParallelRows, parallel_rows_joined, undo_parallel_rows}
use Rattle.lp_rows.proofs.EmptyRow.{empty_row_pairs}
use Rattle.lp_rows.proofs.SingletonRow.{singleton_row_pairs}
use Rattle.lp_rows.proofs.RedundantRow.{row_kept_pairs}
use Rattle.lp_rows.proofs.RedundantSide.{lower_side_kept_pairs, upper_side_kept_pairs}
use Rattle.lp_rows.proofs.ForcingRow.{forced_at_lower_side_keeps_pairs, forced_at_upper_side_keeps_pairs}
use Rattle.lp_rows.proofs.BoundTightening.{lower_bound_implied_pairs, upper_bound_implied_pairs}
use Rattle.lp_rows.proofs.ParallelRows.{parallel_rows_pairs}
use Rattle.undo_records.specs.declared.side.Side.TheVariants.{Lower, Upper}
use Rattle.undo_pairs.specs.LiftPair.{undone_pair}
use Rattle.pair_laws.specs.Records.{empty_row, singleton_row, redundant_row, redundant_side, forcing_row, lower_bound_tightening, upper_bound_tightening, coefficient_tightening, parallel_rows}
use Rattle.pair_laws.proofs.ForcedLaws.{forced_lower, forced_upper}
use Rattle.pair_laws.proofs.RowLaws.{empty, singleton, redundant, tightened_lower, tightened_upper, parallel}
use Rattle.pair_laws.proofs.SenseLaws.{agreeing, with_whole_column}

pub empty_row_pair : (M : LinearProgram) (i : ℕ) → IsEmptyRow M i → ReducesPairs Min M (empty_row_deleted M i) (undone_pair (empty_row i))
empty_row_pair M i e = agreeing Min M (empty_row_deleted M i) (undone_pair (empty_row i)) (undo_empty_row i) (empty (record { row = i })) (empty_row_pairs M i e)

pub singleton_row_pair : (M : LinearProgram) (i j : ℕ) → IsSingletonRow M i j → ReducesPairs Min M (singleton_row_met M i j) (undone_pair (singleton_row M i j))
singleton_row_pair M i j e = agreeing Min M (singleton_row_met M i j) (undone_pair (singleton_row M i j)) (undo_singleton_row i j (M.coefficient i j) (M.lower_bound j) (M.upper_bound j))
    (singleton (record { row = i; column = j; value = M.coefficient i j; lower = M.lower_bound j; upper = M.upper_bound j })) (singleton_row_pairs M i j e)

pub redundant_row_pair : (M : LinearProgram) (i : ℕ) → IsRedundantRow M i → ReducesPairs Min M (redundant_row_deleted M i) (undone_pair (redundant_row i))
redundant_row_pair M i e = agreeing Min M (redundant_row_deleted M i) (undone_pair (redundant_row i)) (undo_redundant_row i) (redundant (record { row = i })) (row_kept_pairs M i e)

pub lower_side_pair : (M : LinearProgram) (i : ℕ) → IsRedundantLowerSide M i → ReducesPairs Min M (lower_side_dropped M i) (undone_pair (redundant_side i))
lower_side_pair M i e = agreeing Min M (lower_side_dropped M i) (undone_pair (redundant_side i)) (λ p. p) (λ p. refl) (lower_side_kept_pairs M i e)

pub upper_side_pair : (M : LinearProgram) (i : ℕ) → IsRedundantUpperSide M i → ReducesPairs Min M (upper_side_dropped M i) (undone_pair (redundant_side i))
upper_side_pair M i e = agreeing Min M (upper_side_dropped M i) (undone_pair (redundant_side i)) (λ p. p) (λ p. refl) (upper_side_kept_pairs M i e)

pub forced_lower_pair : (M : LinearProgram) (i : ℕ) (ts : List Term) → IsForcedAtLowerSide M i → Ascends 0 M.columns ts → dense ts ≡ M.coefficient i → ReducesPairs Min M (forced_at_lower_side M i) (undone_pair (forcing_row i Lower ts))
forced_lower_pair M i ts e a d = agreeing Min M (forced_at_lower_side M i) (undone_pair (forcing_row i Lower ts)) (undo_forced_at_lower_side M.columns i (M.coefficient i))
    (λ p. forced_lower M.columns (record { row = i; side = Lower; entries = ts }) p refl a ∙ ap (λ (f : Vector). undo_forced_at_lower_side M.columns i f p) d) (forced_at_lower_side_keeps_pairs M i e)

pub forced_upper_pair : (M : LinearProgram) (i : ℕ) (ts : List Term) → IsForcedAtUpperSide M i → Ascends 0 M.columns ts → dense ts ≡ M.coefficient i → ReducesPairs Min M (forced_at_upper_side M i) (undone_pair (forcing_row i Upper ts))
forced_upper_pair M i ts e a d = agreeing Min M (forced_at_upper_side M i) (undone_pair (forcing_row i Upper ts)) (undo_forced_at_upper_side M.columns i (M.coefficient i))
    (λ p. forced_upper M.columns (record { row = i; side = Upper; entries = ts }) p refl a ∙ ap (λ (f : Vector). undo_forced_at_upper_side M.columns i f p) d) (forced_at_upper_side_keeps_pairs M i e)

pub tightened_lower_pair : (M : LinearProgram) (i j : ℕ) (ts : List Term) → IsLowerBoundTightening M i j → dense ts ≡ M.coefficient i → ReducesPairs Min M (lower_bound_tightened M i j) (undone_pair (lower_bound_tightening M i j ts))
tightened_lower_pair M i j ts e d = agreeing Min M (lower_bound_tightened M i j) (undone_pair (lower_bound_tightening M i j ts)) (undo_lower_bound_tightened i j (M.lower_bound j) (M.coefficient i))
    (λ p. tightened_lower (record { row = i; column = j; side = Lower; bound = M.lower_bound j; entries = ts }) p refl ∙ ap (λ (f : Vector). undo_lower_bound_tightened i j (M.lower_bound j) f p) d) (lower_bound_implied_pairs M i j e)

pub tightened_upper_pair : (M : LinearProgram) (i j : ℕ) (ts : List Term) → IsUpperBoundTightening M i j → dense ts ≡ M.coefficient i → ReducesPairs Min M (upper_bound_tightened M i j) (undone_pair (upper_bound_tightening M i j ts))
tightened_upper_pair M i j ts e d = agreeing Min M (upper_bound_tightened M i j) (undone_pair (upper_bound_tightening M i j ts)) (undo_upper_bound_tightened i j (M.upper_bound j) (M.coefficient i))
    (λ p. tightened_upper (record { row = i; column = j; side = Upper; bound = M.upper_bound j; entries = ts }) p refl ∙ ap (λ (f : Vector). undo_upper_bound_tightened i j (M.upper_bound j) f p) d) (upper_bound_implied_pairs M i j e)

pub coefficient_pair : (M : LinearProgram) (i j : ℕ) (f : OneSide) (t : Tightening) → IsCoefficientTightening M i j f t → ReducesPairs Min M (coefficient_tightened M i j f t) (undone_pair (coefficient_tightening i j))
coefficient_pair M i j f t e = with_whole_column Min M (coefficient_tightened M i j f t) (undone_pair (coefficient_tightening i j)) j e.column e.whole

pub parallel_rows_pair : (M : LinearProgram) (i k : ℕ) (s : Number) (ts : List Term) → AreParallelRows M i k s → Ascends 0 M.columns ts → dense ts ≡ M.coefficient k → ReducesPairs Min M (parallel_rows_joined M i k s) (undone_pair (parallel_rows M i k s ts))
parallel_rows_pair M i k s ts e a d = agreeing Min M (parallel_rows_joined M i k s) (undone_pair (parallel_rows M i k s ts)) (undo_parallel_rows M.columns i k s (M.lower_side k) (M.upper_side k) (M.coefficient k))
    (λ p. parallel M.columns (record { row = i; kept = k; factor = s; lower = M.lower_side k; upper = M.upper_side k; entries = ts }) p a ∙ ap (λ (f : Vector). undo_parallel_rows M.columns i k s (M.lower_side k) (M.upper_side k) f p) d) (parallel_rows_pairs M i k s e)
