-- Rows.
use Rattle.std.proofs.Common.{◌≡◌, ℕ, refl, ap}
use Rattle.lp_model.specs.Sparse.{Ascends, dense}
use Rattle.lp_model.specs.Reductions.{Priced}
use Rattle.lp_theory.proofs.SparseSums.{sparse-dense}
use Rattle.lp_rows.specs.EmptyRow.{undo_empty_row}
use Rattle.lp_rows.specs.RedundantRow.{undo_redundant_row}
use Rattle.lp_rows.specs.SingletonRow.{undo_singleton_row}
use Rattle.lp_rows.specs.BoundTightening.{undo_lower_bound_tightened, undo_upper_bound_tightened}
use Rattle.lp_rows.specs.ParallelRows.{undo_parallel_rows}
use Rattle.undo_records.specs.declared.side.Side.{Side}
use Rattle.undo_records.specs.declared.side.Side.TheVariants.{Lower, Upper}
use Rattle.undo_records.specs.declared.kinds.row_record.RowRecord.{RowRecord}
use Rattle.undo_records.specs.declared.kinds.singleton_row.SingletonRow.{SingletonRow}
use Rattle.undo_records.specs.declared.kinds.bound_tightening.BoundTightening.{BoundTightening}
use Rattle.undo_records.specs.declared.kinds.parallel_rows.ParallelRows.{ParallelRows}
use Rattle.undo_records.specs.declared.undo.Undo.TheVariants as kind
use Rattle.undo_pairs.specs.LiftPair.{undone_pair, undo_bound, undo_multiple}

pub empty : (r : RowRecord) (p : Priced) → undone_pair (kind.EmptyRow r) p ≡ undo_empty_row r.row p
empty r p = refl

pub singleton : (r : SingletonRow) (p : Priced) → undone_pair (kind.SingletonRow r) p ≡ undo_singleton_row r.row r.column r.value r.lower r.upper p
singleton r p = refl

pub redundant : (r : RowRecord) (p : Priced) → undone_pair (kind.RedundantRow r) p ≡ undo_redundant_row r.row p
redundant r p = refl

pub tightened_lower : (r : BoundTightening) (p : Priced) → r.side ≡ Lower → undone_pair (kind.BoundTightening r) p ≡ undo_lower_bound_tightened r.row r.column r.bound (dense r.entries) p
tightened_lower r p e = ap (λ (s : Side). undo_bound s r.row r.column r.bound r.entries p) e

pub tightened_upper : (r : BoundTightening) (p : Priced) → r.side ≡ Upper → undone_pair (kind.BoundTightening r) p ≡ undo_upper_bound_tightened r.row r.column r.bound (dense r.entries) p
tightened_upper r p e = ap (λ (s : Side). undo_bound s r.row r.column r.bound r.entries p) e

pub parallel : (n : ℕ) (r : ParallelRows) (p : Priced) → Ascends 0 n r.entries → undone_pair (kind.ParallelRows r) p ≡ undo_parallel_rows n r.row r.kept r.factor r.lower r.upper (dense r.entries) p
parallel n r p a = ap (λ v. undo_multiple r.row r.kept r.factor r.lower r.upper v p) (sparse-dense r.entries 0 n p.x a)

pub ruleset row_laws = (empty, singleton, redundant, tightened_lower, tightened_upper, parallel)
