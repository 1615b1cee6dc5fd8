-- What is said of the text of records: what it gives, or its first fault.
use Rattle.std.specs.Prelude.{◌≡◌, ◌⊎◌, ℕ, List, [], ◌∷◌, ◌++◌, codes, Option, Some, None, Result, Ok, Err}
use Rattle.std.specs.Fmt.{decimal}
use Rattle.file_ports.specs.Ports.{Moment}
use Rattle.endings.specs.Moments.{IfFound, IsOverlong, Reads}
use Rattle.record_reader.specs.Faults.{number_of_kind}
use Rattle.record_reader.specs.Reading.{first_fault, records_of}
use Rattle.text_lines.specs.declared.fault.Fault.{Fault}
use Rattle.record_reader.specs.declared.faults.RecordFaultKind.{RecordFaultKind}
use Rattle.undo_records.specs.Postsolve.{Postsolve}
use Rattle.record_texts.specs.declared.reading.TheConstants.{RECORDS_LIMIT}
use Rattle.record_texts.specs.declared.no_records.NoRecords.{NoRecords}
use Rattle.record_texts.specs.declared.no_records.NoRecords.TheVariants.{Refused, NoMemory}

-- a text has no fault, and these are its records
abbrev pub AreRecordsOf : List ℕ → Postsolve → Type 0
AreRecordsOf text records = (first_fault text ≡ None) × (records ≡ records_of text)

-- the line that names a fault of a text of records
abbrev pub record_fault_text : Fault RecordFaultKind → List ℕ
record_fault_text fault = codes "error F" ++ (decimal (number_of_kind fault.kind) ++ (codes " line " ++ (decimal fault.line ++ 10 ∷ [])))

-- what is said of the text of records by this name: its first fault; or that it is longer than is read
abbrev pub SaysRecordFault : List ℕ → List ℕ → Moment → Moment → Type 0
SaysRecordFault name said before now =
    ((fault : Fault RecordFaultKind) × Reads RECORDS_LIMIT (before.told name) (λ text. first_fault text ≡ Some (fault.kind, fault.line)) × (said ≡ record_fault_text fault))
    ⊎ (IsOverlong RECORDS_LIMIT name before now × (said ≡ codes "error F8" ++ 10 ∷ []))

-- the line that refuses a text that was found, by its first fault; or that it is longer than is read
abbrev pub FaultsRecords : Option (List ℕ) → List ℕ → Type 0
FaultsRecords None said = said ≡ codes "error F8" ++ 10 ∷ []
FaultsRecords (Some text) said = (fault : Fault RecordFaultKind) × (first_fault text ≡ Some (fault.kind, fault.line)) × (said ≡ record_fault_text fault)

-- the records of a text that was found, or the line that refuses it
abbrev pub GivesRecords : Option (List ℕ) → Result Postsolve NoRecords → Type 0
GivesRecords found (Ok records) = IfFound found (λ text. AreRecordsOf text records)
GivesRecords found (Err (Refused line)) = FaultsRecords found line.items
GivesRecords found (Err NoMemory) = Unit {0}
