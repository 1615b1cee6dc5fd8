-- What is asked of a record by itself, in a program of m rows and n columns.
use Rattle.std.specs.Prelude.{ℕ, ⊤}
use Rattle.undo_records.specs.declared.undo.Undo.{Undo}
use Rattle.undo_records.specs.declared.undo.Undo.TheVariants.{EmptyRow, SingletonRow, FixedColumn, RoundedBounds, RedundantRow, RedundantSide, ForcingRow, BoundTightening, CoefficientTightening, DualFixing, DominatedColumn, DoubletonEquation, FreeColumnSingleton, SlackColumnSingleton, ParallelRows, ParallelColumns, EmptyColumn}
use Rattle.undo_records.specs.RowRecord as row_record
use Rattle.undo_records.specs.SingletonRow as singleton_row
use Rattle.undo_records.specs.FixedColumn as fixed_column
use Rattle.undo_records.specs.ColumnRecord as column_record
use Rattle.undo_records.specs.ForcingRow as forcing_row
use Rattle.undo_records.specs.BoundTightening as bound_tightening
use Rattle.undo_records.specs.CoefficientTightening as coefficient_tightening
use Rattle.undo_records.specs.DominatedColumn as dominated_column
use Rattle.undo_records.specs.DoubletonEquation as doubleton_equation
use Rattle.undo_records.specs.FreeColumnSingleton as free_column_singleton
use Rattle.undo_records.specs.SlackColumnSingleton as slack_column_singleton
use Rattle.undo_records.specs.ParallelRows as parallel_rows
use Rattle.undo_records.specs.ParallelColumns as parallel_columns

-- the record can be undone: the ids of columns where it reads or sets the point are below n, and it divides by no 0
abbrev pub CanUndo : ℕ → Undo → Type 0
CanUndo n (FixedColumn r) = fixed_column.CanUndo n r
CanUndo n (DoubletonEquation r) = doubleton_equation.CanUndo n r
CanUndo n (FreeColumnSingleton r) = free_column_singleton.CanUndo n r
CanUndo n (SlackColumnSingleton r) = slack_column_singleton.CanUndo n r
CanUndo n (ParallelColumns r) = parallel_columns.CanUndo n r
CanUndo n other = ⊤

-- ids are those of the program and differ where they are of one kind; entries, factors and listed values aren't 0; lists ascend
abbrev pub IsSound : ℕ → ℕ → Undo → Type 0
IsSound m n (EmptyRow r) = row_record.IsSound m r
IsSound m n (SingletonRow r) = singleton_row.IsSound m n r
IsSound m n (FixedColumn r) = fixed_column.IsSound m n r
IsSound m n (RoundedBounds r) = column_record.IsSound n r
IsSound m n (RedundantRow r) = row_record.IsSound m r
IsSound m n (RedundantSide r) = row_record.IsSound m r
IsSound m n (ForcingRow r) = forcing_row.IsSound m n r
IsSound m n (BoundTightening r) = bound_tightening.IsSound m n r
IsSound m n (CoefficientTightening r) = coefficient_tightening.IsSound m n r
IsSound m n (DualFixing r) = column_record.IsSound n r
IsSound m n (DominatedColumn r) = dominated_column.IsSound m n r
IsSound m n (DoubletonEquation r) = doubleton_equation.IsSound m n r
IsSound m n (FreeColumnSingleton r) = free_column_singleton.IsSound m n r
IsSound m n (SlackColumnSingleton r) = slack_column_singleton.IsSound m n r
IsSound m n (ParallelRows r) = parallel_rows.IsSound m n r
IsSound m n (ParallelColumns r) = parallel_columns.IsSound n r
IsSound m n (EmptyColumn r) = column_record.IsSound n r
