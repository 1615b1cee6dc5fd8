-- Which rows and columns are live as reductions are applied, and what is asked of all records of a run.
use Rattle.std.specs.Prelude.{◌≡◌, ℕ, Bool, true, false, List, [], ◌∷◌, map, length, replicate, slice_set, All}
use Rattle.lp_model.specs.Flags.{Flags}
use Rattle.undo_records.specs.declared.label.Label.{Label}
use Rattle.undo_records.specs.declared.undo.Undo.{Undo}
use Rattle.undo_records.specs.declared.undo.Undo.TheVariants.{EmptyRow, SingletonRow, FixedColumn, RoundedBounds, RedundantRow, RedundantSide, ForcingRow, BoundTightening, CoefficientTightening, DualFixing, DominatedColumn, DoubletonEquation, FreeColumnSingleton, SlackColumnSingleton, ParallelRows, ParallelColumns, EmptyColumn}
use Rattle.undo_records.specs.Ids.{is_on}
use Rattle.undo_records.specs.RowRecord as row_record
use Rattle.undo_records.specs.SingletonRow as singleton_row
use Rattle.undo_records.specs.FixedColumn as fixed_column
use Rattle.undo_records.specs.ColumnRecord as column_record
use Rattle.undo_records.specs.ForcingRow as forcing_row
use Rattle.undo_records.specs.BoundTightening as bound_tightening
use Rattle.undo_records.specs.CoefficientTightening as coefficient_tightening
use Rattle.undo_records.specs.DominatedColumn as dominated_column
use Rattle.undo_records.specs.DoubletonEquation as doubleton_equation
use Rattle.undo_records.specs.FreeColumnSingleton as free_column_singleton
use Rattle.undo_records.specs.SlackColumnSingleton as slack_column_singleton
use Rattle.undo_records.specs.ParallelRows as parallel_rows
use Rattle.undo_records.specs.ParallelColumns as parallel_columns
use Rattle.undo_records.specs.Postsolve.{Postsolve}
use Rattle.undo_records.specs.Sound.{IsSound}

-- the rows that a record names, those of its list too
abbrev pub rows_named : Undo → List ℕ
rows_named (EmptyRow r) = row_record.rows_named r
rows_named (SingletonRow r) = singleton_row.rows_named r
rows_named (FixedColumn r) = fixed_column.rows_named r
rows_named (RedundantRow r) = row_record.rows_named r
rows_named (RedundantSide r) = row_record.rows_named r
rows_named (ForcingRow r) = forcing_row.rows_named r
rows_named (BoundTightening r) = bound_tightening.rows_named r
rows_named (CoefficientTightening r) = coefficient_tightening.rows_named r
rows_named (DominatedColumn r) = dominated_column.rows_named r
rows_named (DoubletonEquation r) = doubleton_equation.rows_named r
rows_named (FreeColumnSingleton r) = free_column_singleton.rows_named r
rows_named (SlackColumnSingleton r) = slack_column_singleton.rows_named r
rows_named (ParallelRows r) = parallel_rows.rows_named r
rows_named other = []

-- the columns that a record names, those of its list too
abbrev pub columns_named : Undo → List ℕ
columns_named (SingletonRow r) = singleton_row.columns_named r
columns_named (FixedColumn r) = fixed_column.columns_named r
columns_named (RoundedBounds r) = column_record.columns_named r
columns_named (ForcingRow r) = forcing_row.columns_named r
columns_named (BoundTightening r) = bound_tightening.columns_named r
columns_named (CoefficientTightening r) = coefficient_tightening.columns_named r
columns_named (DualFixing r) = column_record.columns_named r
columns_named (DominatedColumn r) = dominated_column.columns_named r
columns_named (DoubletonEquation r) = doubleton_equation.columns_named r
columns_named (FreeColumnSingleton r) = free_column_singleton.columns_named r
columns_named (SlackColumnSingleton r) = slack_column_singleton.columns_named r
columns_named (ParallelRows r) = parallel_rows.columns_named r
columns_named (ParallelColumns r) = parallel_columns.columns_named r
columns_named (EmptyColumn r) = column_record.columns_named r
columns_named other = []

-- the rows that a reduction deletes
abbrev pub rows_deleted : Undo → List ℕ
rows_deleted (EmptyRow r) = row_record.rows_deleted r
rows_deleted (SingletonRow r) = singleton_row.rows_deleted r
rows_deleted (RedundantRow r) = row_record.rows_deleted r
rows_deleted (ForcingRow r) = forcing_row.rows_deleted r
rows_deleted (DoubletonEquation r) = doubleton_equation.rows_deleted r
rows_deleted (FreeColumnSingleton r) = free_column_singleton.rows_deleted r
rows_deleted (SlackColumnSingleton r) = slack_column_singleton.rows_deleted r
rows_deleted (ParallelRows r) = parallel_rows.rows_deleted r
rows_deleted other = []

-- the columns that a reduction deletes
abbrev pub columns_deleted : Undo → List ℕ
columns_deleted (FixedColumn r) = fixed_column.columns_deleted r
columns_deleted (DoubletonEquation r) = doubleton_equation.columns_deleted r
columns_deleted (FreeColumnSingleton r) = free_column_singleton.columns_deleted r
columns_deleted (SlackColumnSingleton r) = slack_column_singleton.columns_deleted r
columns_deleted (ParallelColumns r) = parallel_columns.columns_deleted r
columns_deleted other = []

-- these ids are no longer on
abbrev pub cleared : List ℕ → List Bool → List Bool
cleared [] flags = flags
cleared (k ∷ ks) flags = cleared ks (slice_set flags k false)

-- what is live after a reduction
abbrev pub after : Undo → Flags → Flags
after u f = record { rows = cleared (rows_deleted u) f.rows; columns = cleared (columns_deleted u) f.columns }

-- all that the record names is live
abbrev pub NamesLive : Flags → Undo → Type 0
NamesLive f u = All (λ i. is_on f.rows i ≡ true) (rows_named u) × All (λ j. is_on f.columns j ≡ true) (columns_named u)

-- Walks: from these flags the records, each of which names what is live, lead to those; what a rule deletes is gone after it
abbrev pub Walks : Flags → List Undo → Flags → Type 0
Walks f [] g = g ≡ f
Walks f (u ∷ us) g = NamesLive f u × Walks (after u f) us g

-- all of m rows and n columns are live
abbrev pub all_live : ℕ → ℕ → Flags
all_live m n = record { rows = replicate m true; columns = replicate n true }

-- whether each label is live
abbrev pub lives : List Label → List Bool
lives ls = map (λ l. l.live) ls

-- what the labels say is live
abbrev pub flags_of : Postsolve → Flags
flags_of p = record { rows = lives p.rows; columns = lives p.columns }

-- each record is sound by itself, and they lead from all live to the flags of the labels
pub record AreSound (p : Postsolve) : Type 0 where
  pub records : All (IsSound (length p.rows) (length p.columns)) p.undos
  pub walk : Walks (all_live (length p.rows) (length p.columns)) p.undos (flags_of p)
