-- The fault of a line, by what the lines before it have given.
use Rattle.std.specs.Prelude.{ℕ, Bool, true, false, ◌&&◌, List, [], ◌∷◌, Option, Some, None, Result, Ok, Err, is_some, length, codes, if◌then◌else◌}
use Rattle.undo_records.specs.Postsolve.{Postsolve}
use Rattle.lp_model.specs.Flags.{Flags}
use Rattle.undo_records.specs.Walk.{lives}
use Rattle.fractions.specs.Number.{Number}
use Rattle.record_fields.specs.Words.{words_of}
use Rattle.record_words.specs.Undos.{undo_fault}
use Rattle.record_fields.specs.declared.faults.LineFault.{LineFault}
use Rattle.record_fields.specs.declared.faults.LineFault.TheVariants as line
use Rattle.record_reader.specs.Labels.{label_of}
use Rattle.record_reader.specs.Headings.{version_of, sense_of, duals_of, count_of, offset_of, is_end}
use Rattle.record_reader.specs.Progress.{Progress, place_in}
use Rattle.record_reader.specs.Transactions.{transaction_fault, read_fault}
use Rattle.record_reader.specs.declared.faults.RecordFaultKind.{RecordFaultKind}
use Rattle.record_reader.specs.declared.faults.RecordFaultKind.TheVariants.{BadHeader, BadLine, BadId, Cut, NumberPast, BadTransaction}
use Rattle.record_reader.specs.declared.stages.Stage.{Stage}
use Rattle.record_reader.specs.declared.stages.Stage.TheVariants.{Header, SenseLine, DualsLine, ColumnCount, Columns, RowCount, Rows, Offset, RecordCount, Transactions, Reads, Undos, End, Over}

abbrev pub number_of_kind : RecordFaultKind → ℕ
number_of_kind BadHeader = 1
number_of_kind BadLine = 2
number_of_kind BadId = 3
number_of_kind Cut = 4
number_of_kind NumberPast = 6
number_of_kind BadTransaction = 9

abbrev pub kind_of : LineFault → RecordFaultKind
kind_of line.BadLine = BadLine
kind_of line.BadId = BadId
kind_of line.NumberPast = NumberPast

abbrev pub kind_in : Option LineFault → Option RecordFaultKind
kind_in None = None
kind_in (Some fault) = Some (kind_of fault)

-- a fault where something doesn't hold
abbrev pub unless : Bool → RecordFaultKind → Option RecordFaultKind
unless holds kind = if holds then None else Some kind

abbrev pub offset_fault : Result Number LineFault → Option RecordFaultKind
offset_fault (Ok q) = None
offset_fault (Err fault) = Some (kind_of fault)

abbrev pub same_flag : Bool → Bool → Bool
same_flag true g = g
same_flag false true = false
same_flag false false = true

abbrev pub same_flags : List Bool → List Bool → Bool
same_flags [] [] = true
same_flags [] (g ∷ gs) = false
same_flags (f ∷ fs) [] = false
same_flags (f ∷ fs) (g ∷ gs) = same_flag f g && same_flags fs gs

-- the labels say what the records have left
abbrev pub ends_at : Flags → Postsolve → Bool
ends_at f p = same_flags f.columns (lives p.columns) && same_flags f.rows (lives p.rows)

-- the line `end`, where the labels say what the records have left
abbrev pub end_fault : Progress → List ℕ → Option RecordFaultKind
end_fault p line = if is_end line then unless (ends_at p.live p.given) BadId else Some BadLine

abbrev pub fault_at : Stage → Progress → List ℕ → Option RecordFaultKind
fault_at Header p line = unless (is_some (version_of line)) BadHeader
fault_at SenseLine p line = unless (is_some (sense_of line)) BadLine
fault_at DualsLine p line = unless (is_some (duals_of line)) BadLine
fault_at ColumnCount p line = unless (is_some (count_of (codes "columns ") line)) BadLine
fault_at (Columns n) p line = unless (is_some (label_of line)) BadLine
fault_at RowCount p line = unless (is_some (count_of (codes "rows ") line)) BadLine
fault_at (Rows n) p line = unless (is_some (label_of line)) BadLine
fault_at Offset p line = offset_fault (offset_of line)
fault_at RecordCount p line = unless (is_some (count_of (codes "records ") line)) BadLine
fault_at (Transactions n) p line = transaction_fault (place_in p) (words_of line)
fault_at (Reads n r) p line = read_fault (length p.given.rows) (length p.given.columns) (words_of line)
fault_at (Undos n) p line = kind_in (undo_fault p.live (words_of line))
fault_at End p line = end_fault p line
fault_at Over p line = Some BadLine

-- the fault of a line behind this progress
unfoldable pub line_fault : Progress → List ℕ → Option RecordFaultKind
line_fault p line = fault_at p.stage p line
