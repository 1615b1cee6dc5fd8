-- What migrate says of the same bytes is one.
use Rattle.std.proofs.Common.{◌≡◌, ◌≤◌, inl, inr, ℕ, List, length, Some, sym, ap, ◌∙◌, subst}
use Rattle.file_ports.specs.Ports.{Moment}
use Rattle.command_words.specs.Names.{MigrateNames}
use Rattle.undo_records.specs.Postsolve.{Postsolve}
use Rattle.record_values.specs.declared.version.TextVersion.TheVariants.{Second}
use Rattle.record_file.specs.RecordText.{record_text}
use Rattle.record_reader.specs.Reading as reading
use Rattle.record_texts.specs.RecordTexts.{AreRecordsOf, SaysRecordFault}
use Rattle.record_texts.specs.declared.reading.TheConstants.{RECORDS_LIMIT}
use Rattle.migrate_command.specs.Migrated.{AreMigrated, IsMigrated, SaysMigrate, count_text}
use Rattle.two_runs.specs.Runs.{Holds}
use Rattle.two_runs.specs.SameAnswers.{IsOfBytes, LeaveTheSame, MigratesAreOne}
use Rattle.two_runs.proofs.Joined.{held_written}
use Rattle.two_runs.proofs.Layers.{at_status, either, Layer, layer_same, longer_held, read_held}
use Rattle.two_runs.proofs.OnePostsolve.{record_line, records_over}

-- ---- of a text
module _ (undoing : List ℕ) where
  abbrev told : Postsolve
  told = reading.records_of undoing

  abbrev OfCount : ℕ → List ℕ → Type 0
  OfCount s said = (s ≡ 0) × (said ≡ count_text told)

  abbrev OfRecords : ℕ → List ℕ → Type 0
  OfRecords s said = Layer RECORDS_LIMIT undoing records_over (reading.first_fault undoing) record_line 7 s said (OfCount s said)

  records_same : (s t : ℕ) (said more : List ℕ) → OfRecords s said → OfRecords t more → (s ≡ t) × (said ≡ more)
  records_same s t said more a b = layer_same RECORDS_LIMIT undoing records_over (reading.first_fault undoing) record_line 7 s t said more a b (λ q r. (q.0 ∙ sym r.0, q.1 ∙ sym r.1))

  -- ---- what is said at a moment at which REC holds it
  module _ (names : MigrateNames) (before : Moment) (at_undoing : Holds before names.records undoing) where
    module _ (text said : List ℕ) (a : AreMigrated names text said before) where
      given : (length undoing ≤ RECORDS_LIMIT) × AreRecordsOf undoing a.records
      given = read_held RECORDS_LIMIT (before.told names.records) undoing (λ t. AreRecordsOf t a.records) at_undoing a.given

      text_is : text ≡ record_text Second told
      text_is = a.text ∙ ap (record_text Second) given.1.1

      counted : (s : ℕ) → s ≡ 0 → OfRecords s said
      counted s e = inr (given.0, given.1.0, (e, a.count ∙ ap count_text given.1.1))

    refused : (s : ℕ) (said : List ℕ) (now : Moment) → s ≡ 7 → SaysRecordFault names.records said before now → OfRecords s said
    refused s said now e (inl (fault, h, line)) =
        let r = read_held RECORDS_LIMIT (before.told names.records) undoing (λ text. reading.first_fault text ≡ Some (fault.kind, fault.line)) at_undoing h in
        inl (e, inr (r.0, ((fault.kind, fault.line), r.1, line)))
    refused s said now e (inr (over, line)) = inl (e, inl (longer_held RECORDS_LIMIT (before.told names.records) undoing at_undoing over.0, line))

    told_of : (s : ℕ) (said : List ℕ) (now : Moment) → IsOfBytes s → SaysMigrate names s said before now → OfRecords s said
    told_of s said now b w0 =
        either (at_status s 0 _ _ w0) (λ h. counted h.1.text said h.1.migrated s h.0)
        (λ w3. either (at_status s 3 _ _ w3) (λ h. absurd (b.read h.0))
        (λ w4. either (at_status s 4 _ _ w4) (λ h. absurd (b.written h.0))
        (λ w5. either (at_status s 5 _ _ w5) (λ h. absurd (b.made h.0))
        (λ w7. either (at_status s 7 _ _ w7) (λ h. refused s said now h.0 h.1.0)
        (λ none. absurd none)))))

-- ---- NEW
at_zero : (names : MigrateNames) (s : ℕ) (said : List ℕ) (before now : Moment) → s ≡ 0 → SaysMigrate names s said before now → IsMigrated names said before now
at_zero names s said before now e w = subst (λ (k : ℕ). SaysMigrate names k said before now) e w

written_same : (undoing : List ℕ) (names : MigrateNames) (said more : List ℕ) (before now then later : Moment)
    → Holds before names.records undoing → Holds then names.records undoing → IsMigrated names said before now → IsMigrated names more then later → LeaveTheSame now later names.written
written_same undoing names said more before now then later i j a b bytes others x y =
    sym (held_written (before.told names.written) (now.told names.written) bytes a.text x a.text_written)
    ∙ text_is undoing names before i a.text said a.migrated
    ∙ sym (text_is undoing names then j b.text more b.migrated)
    ∙ held_written (then.told names.written) (later.told names.written) others b.text y b.text_written

pub migrate_same : MigratesAreOne
migrate_same names s t said more before now then later (undoing, i, j) b c x y =
    let same = records_same undoing s t said more (told_of undoing names before i s said now b x.says) (told_of undoing names then j t more later c y.says) in
    record {
      status = same.0;
      printed = same.1;
      written = λ zero. written_same undoing names said more before now then later i j (at_zero names s said before now zero x.says) (at_zero names t more then later (sym same.0 ∙ zero) y.says);
    }
