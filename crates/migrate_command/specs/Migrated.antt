-- What an ending of a migration says of the files before and after it.
use Rattle.std.specs.Prelude.{◌≡◌, ◌≢◌, ◌==◌, ℕ, List, [], ◌∷◌, ◌++◌, codes, length, Result, Ok, Err}
use Rattle.std.specs.Fmt.{decimal}
use Rattle.file_ports.specs.Ports.{Moment, Unsettled, KeepsOthers, Written}
use Rattle.command_words.specs.Names.{MigrateNames}
use Rattle.undo_records.specs.Postsolve.{Postsolve}
use Rattle.record_values.specs.declared.version.TextVersion.TheVariants.{Second}
use Rattle.record_file.specs.RecordText.{record_text}
use Rattle.endings.specs.Ending.{When, no_memory_line, read_fault_line, write_fault_line}
use Rattle.endings.specs.Moments.{FailsToRead, FailsToWrite, IsQuiet, IsThere, Reads}
use Rattle.record_texts.specs.RecordTexts.{AreRecordsOf, SaysRecordFault}
use Rattle.record_texts.specs.declared.reading.TheConstants.{RECORDS_LIMIT}
use Rattle.record_texts.specs.declared.no_records.NoRecords.{NoRecords}
use Rattle.record_texts.specs.declared.no_records.NoRecords.TheVariants.{Refused, NoMemory}
use Rattle.migrate_command.specs.declared.migrated.Texts.{Texts}

-- REC has no fault, and these are its records
abbrev pub AreRecordsIn : MigrateNames → Moment → Postsolve → Type 0
AreRecordsIn names before records = Reads RECORDS_LIMIT (before.told names.records) (λ text. AreRecordsOf text records)

-- how many records there are
abbrev pub count_text : Postsolve → List ℕ
count_text records = codes "records " ++ (decimal (length records.undos) ++ 10 ∷ [])

-- the text of the second version of REC's records, which gives the same records; and the line that counts them
pub record AreMigrated (names : MigrateNames) (written printed : List ℕ) (before : Moment) : Type 0 where
  pub records : Postsolve
  pub given : AreRecordsIn names before records
  pub text : written ≡ record_text Second records
  pub again : AreRecordsOf written records
  pub count : printed ≡ count_text records

-- what is made of REC's text
abbrev pub IsMigration : MigrateNames → Result Texts NoRecords → Moment → Moment → Type 0
IsMigration names (Ok texts) before now = AreMigrated names texts.written.items texts.printed.items before
IsMigration names (Err (Refused line)) before now = SaysRecordFault names.records line.items before now
IsMigration names (Err NoMemory) before now = Unit {0}

-- NEW holds the text of the second version of REC's records; all other names tell what they told
pub record IsMigrated (names : MigrateNames) (printed : List ℕ) (before now : Moment) : Type 0 where
  pub text : List ℕ
  pub migrated : AreMigrated names text printed before
  pub text_written : Written (before.told names.written) (now.told names.written) text
  pub others : KeepsOthers before.told now.told names.written

-- what would have been written was made, and its write failed: NEW is not told, or tells what it told; all other names stand
pub record IsUnwritten (names : MigrateNames) (before now : Moment) : Type 0 where
  pub text : List ℕ
  pub printed : List ℕ
  pub migrated : AreMigrated names text printed before
  pub fails : FailsToWrite names.written before now
  pub unsettled : Unsettled (before.told names.written) (now.told names.written)
  pub others : KeepsOthers before.told now.told names.written

-- what a migration says at a status, with what it prints
abbrev pub SaysMigrate : MigrateNames → ℕ → List ℕ → Moment → Moment → Type 0
SaysMigrate names status printed before now =
    When (status == 0) (IsMigrated names printed before now)
    (When (status == 3) (FailsToRead names.records before now × IsQuiet before now × (printed ≡ read_fault_line))
    (When (status == 4) (IsUnwritten names before now × (printed ≡ write_fault_line))
    (When (status == 5) (IsQuiet before now × (printed ≡ no_memory_line))
    (When (status == 7) (SaysRecordFault names.records printed before now × IsQuiet before now)
    ⊥))))

-- the same; and where REC could be read, it is not told as missing
pub record EndsMigrate (names : MigrateNames) (status : ℕ) (printed : List ℕ) (before now : Moment) : Type 0 where
  pub says : SaysMigrate names status printed before now
  pub read : status ≢ 3 → status ≢ 5 → IsThere (before.told names.records)
