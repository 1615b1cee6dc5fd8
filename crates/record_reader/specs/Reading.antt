-- The first fault of a text, and the records that it gives.
use Rattle.std.specs.Prelude.{◌≡◌, ℕ, ◌+◌, Bool, true, false, List, [], ◌∷◌, Option, Some, None, Result, Ok, Err, if◌then◌else◌}
use Rattle.text_lines.specs.Faults.{or_later}
use Rattle.text_lines.specs.Lines.{raw_lines_of}
use Rattle.undo_records.specs.Postsolve.{Postsolve}
use Rattle.record_reader.specs.Progress.{Progress, start, moved}
use Rattle.record_reader.specs.Faults.{line_fault}
use Rattle.record_reader.specs.declared.faults.RecordFaultKind.{RecordFaultKind}
use Rattle.record_reader.specs.declared.faults.RecordFaultKind.TheVariants.{Cut}
use Rattle.record_reader.specs.declared.faults.RecordError.{RecordError}
use Rattle.record_reader.specs.declared.faults.RecordError.TheVariants.{Fault, NoMemory}
use Rattle.record_reader.specs.declared.stages.Stage.{Stage}
use Rattle.record_reader.specs.declared.stages.Stage.TheVariants.{Over}

abbrev pub is_over : Stage → Bool
is_over Over = true
is_over stage = false

-- the first fault from a line on, where so many lines stand before it; a text that ends before `end` has its fault past the last line
abbrev pub fault_from : Progress → ℕ → List (List ℕ) → Option (RecordFaultKind × ℕ)
fault_from p before [] = if is_over p.stage then None else Some (Cut, before + 1)
fault_from p before (line ∷ more) = or_later (line_fault p line) (before + 1) (fault_from (moved p line) (before + 1) more)

unfoldable pub first_fault : List ℕ → Option (RecordFaultKind × ℕ)
first_fault text = fault_from start 0 (raw_lines_of text)

abbrev pub progress_from : Progress → List (List ℕ) → Progress
progress_from p [] = p
progress_from p (line ∷ more) = progress_from (moved p line) more

-- what all lines give
unfoldable pub records_of : List ℕ → Postsolve
records_of text = (progress_from start (raw_lines_of text)).given

-- the records of a text without a fault, or the first fault with its line
abbrev pub IsRead : List ℕ → Result Postsolve RecordError → Type 0
IsRead text (Ok records) = (first_fault text ≡ None) × (records ≡ records_of text)
IsRead text (Err (Fault fault)) = first_fault text ≡ Some (fault.kind, fault.line)
IsRead text (Err NoMemory) = Unit {0}
