-- What the lines so far have given, and what the next one has to be.
use Rattle.std.specs.Prelude.{ℕ, false, zero, suc, pred, List, [], ◌∷◌, ◌++◌, length, Result, Ok, Err, unwrap_or, codes}
use Rattle.fractions.specs.Number.{Number, zero_ℚ}
use Rattle.lp_model.specs.declared.program.Sense.TheVariants.{Min}
use Rattle.undo_records.specs.Postsolve.{Postsolve}
use Rattle.lp_model.specs.Flags.{Flags}
use Rattle.undo_records.specs.Walk.{all_live, after}
use Rattle.undo_records.specs.declared.undo.Undo.{Undo}
use Rattle.transactions.specs.Transactions.{Transaction, untold, with_read}
use Rattle.record_fields.specs.Words.{words_of}
use Rattle.record_values.specs.declared.version.TextVersion.{TextVersion}
use Rattle.record_values.specs.declared.version.TextVersion.TheVariants.{First, Second}
use Rattle.record_words.specs.Undos.{undo_in, word}
use Rattle.record_fields.specs.declared.faults.LineFault.{LineFault}
use Rattle.record_reader.specs.Labels.{label_of, with_label}
use Rattle.record_reader.specs.Headings.{version_of, sense_of, duals_of, count_of, counted, offset_of}
use Rattle.record_reader.specs.Transactions.{transaction_in, read_in}
use Rattle.record_reader.specs.declared.stages.Stage.{Stage}
use Rattle.record_reader.specs.declared.stages.Stage.TheVariants.{Header, SenseLine, DualsLine, ColumnCount, Columns, RowCount, Rows, Offset, RecordCount, Transactions, Reads, Undos, End, Over}

-- what the next line has to be, the version of the text, what the lines so far have given, and what is live behind them
pub record Progress : Type 0 where
  pub stage : Stage
  pub version : TextVersion
  pub given : Postsolve
  pub live : Flags

abbrev pub nothing : Postsolve
nothing = record { sense = Min; duals = false; columns = []; rows = []; offset = zero_ℚ; undos = []; transactions = [] }

abbrev pub start : Progress
start = record { stage = Header; version = First; given = nothing; live = all_live 0 0 }

-- so many lines still, and then another one
abbrev pub left_or : (ℕ → Stage) → Stage → ℕ → Stage
left_or stage next zero = next
left_or stage next (suc n) = stage (suc n)

abbrev pub columns_left : ℕ → Stage
columns_left n = left_or Columns RowCount n

abbrev pub rows_left : ℕ → Stage
rows_left n = left_or Rows Offset n

-- so many records still: alone, or each behind its transaction
abbrev pub records_left : TextVersion → ℕ → Stage
records_left First n = left_or Undos End n
records_left Second n = left_or Transactions End n

-- so many parts still that were read for the first of n records
abbrev pub reads_left : ℕ → ℕ → Stage
reads_left n zero = Undos n
reads_left n (suc r) = Reads n (suc r)

abbrev pub number_or_zero : Result Number LineFault → Number
number_or_zero (Ok q) = q
number_or_zero (Err fault) = zero_ℚ

-- the transaction that a record without one has
abbrev pub untold_by : TextVersion → List Transaction
untold_by First = untold ∷ []
untold_by Second = []

-- the same where the text has no transactions
abbrev pub without_transaction : Progress → Progress
without_transaction p = record p { given = record p.given { transactions = p.given.transactions ++ untold_by p.version } }

-- a record's line behind others
abbrev pub with_undo : Progress → ℕ → Undo → Progress
with_undo p n u = record {
  stage = records_left p.version (pred n);
  version = p.version;
  given = record p.given { undos = p.given.undos ++ u ∷ []; transactions = p.given.transactions ++ untold_by p.version };
  live = after u p.live;
}

-- the place of the next record, from 1 on
abbrev pub place_in : Progress → ℕ
place_in p = suc (length p.given.undos)

-- a transaction's line, which tells how many parts were read
abbrev pub with_transaction : Progress → ℕ → List (List ℕ) → Progress
with_transaction p n ws = record p { stage = reads_left n (counted (word 4 ws)); given = record p.given { transactions = p.given.transactions ++ transaction_in ws ∷ [] } }

-- the line of a part that was read
abbrev pub with_part : Progress → ℕ → ℕ → List (List ℕ) → Progress
with_part p n r ws = record p { stage = reads_left n (pred r); given = record p.given { transactions = with_read p.given.transactions (read_in ws) } }

-- the count of records: from here on rows and columns are deleted
abbrev pub with_records : Progress → ℕ → Progress
with_records p n = record { stage = records_left p.version n; version = p.version; given = p.given; live = all_live (length p.given.rows) (length p.given.columns) }

-- the progress behind a line
abbrev pub moved_at : Stage → Progress → List ℕ → Progress
moved_at Header p line = record p { stage = SenseLine; version = unwrap_or (version_of line) First }
moved_at SenseLine p line = record p { stage = DualsLine; given = record p.given { sense = unwrap_or (sense_of line) Min } }
moved_at DualsLine p line = record p { stage = ColumnCount; given = record p.given { duals = unwrap_or (duals_of line) false } }
moved_at ColumnCount p line = record p { stage = columns_left (unwrap_or (count_of (codes "columns ") line) 0) }
moved_at (Columns n) p line = record p { stage = columns_left (pred n); given = record p.given { columns = with_label p.given.columns (label_of line) } }
moved_at RowCount p line = record p { stage = rows_left (unwrap_or (count_of (codes "rows ") line) 0) }
moved_at (Rows n) p line = record p { stage = rows_left (pred n); given = record p.given { rows = with_label p.given.rows (label_of line) } }
moved_at Offset p line = record p { stage = RecordCount; given = record p.given { offset = number_or_zero (offset_of line) } }
moved_at RecordCount p line = with_records p (unwrap_or (count_of (codes "records ") line) 0)
moved_at (Transactions n) p line = with_transaction p n (words_of line)
moved_at (Reads n r) p line = with_part p n r (words_of line)
moved_at (Undos n) p line = with_undo p n (undo_in (words_of line))
moved_at End p line = record p { stage = Over }
moved_at Over p line = p

unfoldable pub moved : Progress → List ℕ → Progress
moved p line = moved_at p.stage p line
