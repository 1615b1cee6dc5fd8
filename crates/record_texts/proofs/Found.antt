-- What bytes that a read found say of what a name tells.
use Rattle.std.proofs.Common.{◌≡◌, ◌∙◌, ℕ, List, inl, inr, Option, Some, None, ap, sym}
use Rattle.file_ports.specs.Ports.{Moment}
use Rattle.undo_records.specs.Postsolve.{Postsolve}
use Rattle.record_reader.specs.Reading.{first_fault, records_of}
use Rattle.endings.specs.Moments.{Finds, IfFound, Reads}
use Rattle.endings.proofs.Earlier.{found_reads, given_reads}
use Rattle.record_texts.specs.RecordTexts.{AreRecordsOf, FaultsRecords, SaysRecordFault}
use Rattle.record_texts.specs.declared.reading.TheConstants.{RECORDS_LIMIT}

pub records_told : (name : List ℕ) (before now : Moment) (found : Option (List ℕ)) (records : Postsolve)
    → Finds RECORDS_LIMIT name before now found → IfFound found (λ text. AreRecordsOf text records) → Reads RECORDS_LIMIT (before.told name) (λ text. AreRecordsOf text records)
records_told name before now found records finds has = found_reads RECORDS_LIMIT name before now found (λ text. AreRecordsOf text records) finds has

pub fault_told : (name : List ℕ) (before now : Moment) (found : Option (List ℕ)) (said : List ℕ)
    → Finds RECORDS_LIMIT name before now found → FaultsRecords found said → SaysRecordFault name said before now
fault_told name before now None said finds says = inr (finds, says)
fault_told name before now (Some text) said finds says =
    let fault = says.0 in
    inl (fault, given_reads RECORDS_LIMIT (before.told name) text (λ t. first_fault t ≡ Some (fault.kind, fault.line)) finds.0 finds.1 says.1, says.2)

-- a text that gives records gives them as bytes that are the same
pub records_again : (bytes text : List ℕ) (records : Postsolve) → bytes ≡ text → first_fault text ≡ None → records_of text ≡ records → AreRecordsOf bytes records
records_again bytes text records is sound same = (ap first_fault is ∙ sound, sym (ap records_of is ∙ same))
