-- What the steps of reading give.
use Rattle.std.specs.Prelude.{◌≡◌, ℕ, List, Some, None, Result, Ok, Err}
use Rattle.fractions.specs.Number.{Number}
use Rattle.text_lines.specs.Lines.{raw_lines_of}
use Rattle.record_words.specs.declared.lines.LineError.{LineError}
use Rattle.record_words.specs.declared.lines.LineError.TheVariants as line
use Rattle.record_fields.specs.declared.faults.LineFault.{LineFault}
use Rattle.record_reader.specs.Progress.{Progress, moved_at, moved}
use Rattle.record_reader.specs.Faults.{fault_at, line_fault}
use Rattle.record_reader.specs.Reading.{fault_from, first_fault, progress_from, records_of}
use Rattle.record_reader.specs.declared.draft.Draft.{Draft}
use Rattle.record_reader.specs.declared.faults.RecordError.{RecordError}
use Rattle.record_reader.specs.declared.faults.RecordError.TheVariants as record_error
use Rattle.record_reader.specs.declared.faults.TakeError.{TakeError}
use Rattle.record_reader.specs.declared.faults.TakeError.TheVariants as take
use Rattle.record_reader.specs.declared.stages.Stage.{Stage}
use Rattle.record_reader.specs.declared.transaction_lines.Heading.{Heading}
use Rattle.record_reader.specs.declared.faults.RecordFaultKind.{RecordFaultKind}
use Rattle.record_reader.specs.Transactions.{transaction_fault, read_fault, read_in}
use Rattle.record_reader.specs.Headings.{counted}
use Rattle.number_texts.specs.Form.{number}
use Rattle.transactions.specs.declared.transactions.PartRead.{PartRead}
use Rattle.record_words.specs.Undos.{word}

-- the progress that a draft shows
abbrev pub seen : Draft → Progress
seen d = record {
  stage = d.stage;
  version = d.version;
  given = record { sense = d.sense; duals = d.duals; columns = d.columns.items; rows = d.rows.items; offset = d.offset; undos = d.undos.items; transactions = d.transactions };
  live = d.walk;
}

-- a number, or a fault, as it is to be
abbrev pub IsNumber : Result Number LineFault → Result Number LineError → Type 0
IsNumber read (Ok q) = read ≡ Ok q
IsNumber read (Err (line.Fault fault)) = read ≡ Err fault
IsNumber read (Err line.NoMemory) = Unit {0}

-- a line was taken in at a stage, or its fault was found
abbrev pub TakesAt : {T : Type 0} → Stage → Progress → List ℕ → Result T TakeError → Progress → Type 0
TakesAt stage p text (Ok done) q = (fault_at stage p text ≡ None) × (q ≡ moved_at stage p text)
TakesAt stage p text (Err (take.Fault kind)) q = fault_at stage p text ≡ Some kind
TakesAt stage p text (Err take.NoMemory) q = Unit {0}

abbrev pub Takes : {T : Type 0} → Progress → List ℕ → Result T TakeError → Progress → Type 0
Takes p text (Ok done) q = (line_fault p text ≡ None) × (q ≡ moved p text)
Takes p text (Err (take.Fault kind)) q = line_fault p text ≡ Some kind
Takes p text (Err take.NoMemory) q = Unit {0}

-- all lines of a text were taken in, or its first fault was found
abbrev pub TakesAll : {T : Type 0} → Progress → List ℕ → Result T RecordError → Progress → Type 0
TakesAll p text (Ok done) q = (fault_from p 0 (raw_lines_of text) ≡ None) × (q ≡ progress_from p (raw_lines_of text))
TakesAll p text (Err (record_error.Fault fault)) q = fault_from p 0 (raw_lines_of text) ≡ Some (fault.kind, fault.line)
TakesAll p text (Err record_error.NoMemory) q = Unit {0}

-- what all lines of a text give, or its first fault
abbrev pub IsDraft : List ℕ → Result Draft RecordError → Type 0
IsDraft text (Ok d) = (first_fault text ≡ None) × ((seen d).given ≡ records_of text)
IsDraft text (Err (record_error.Fault fault)) = first_fault text ≡ Some (fault.kind, fault.line)
IsDraft text (Err record_error.NoMemory) = Unit {0}

-- what the line of a transaction at a place tells, or its fault
abbrev pub IsHeading : ℕ → List (List ℕ) → Result Heading RecordFaultKind → Type 0
IsHeading place ws (Ok h) = (transaction_fault place ws ≡ None) × (h.by ≡ number (word 2 ws)) × (h.version ≡ number (word 3 ws)) × (h.reads ≡ counted (word 4 ws))
IsHeading place ws (Err kind) = transaction_fault place ws ≡ Some kind

-- the part that a line says was read in a program of m rows and n columns, or its fault
abbrev pub IsPartRead : ℕ → ℕ → List (List ℕ) → Result PartRead RecordFaultKind → Type 0
IsPartRead m n ws (Ok r) = (read_fault m n ws ≡ None) × (r ≡ read_in ws)
IsPartRead m n ws (Err kind) = read_fault m n ws ≡ Some kind
