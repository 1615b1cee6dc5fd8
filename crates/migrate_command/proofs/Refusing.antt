-- What is said of REC where it is refused.
use Rattle.std.proofs.Common.{◌≡◌, ℕ, Err, Vec, Global, subst}
use Rattle.file_ports.specs.Ports.{Moment}
use Rattle.command_words.specs.Names.{MigrateNames}
use Rattle.record_texts.specs.RecordTexts.{SaysRecordFault}
use Rattle.record_texts.specs.declared.no_records.NoRecords.{NoRecords}
use Rattle.record_texts.specs.declared.no_records.NoRecords.TheVariants.{Refused}
use Rattle.migrate_command.specs.Migrated.{IsMigration}

-- by the line that refuses it
pub refused_as : (names : MigrateNames) (before now : Moment) (none : NoRecords) (line : Vec ℕ Global) → none ≡ Refused line
    → IsMigration names (Err none) before now → SaysRecordFault names.records line.items before now
refused_as names before now none line is h = subst (λ (n : NoRecords). IsMigration names (Err n) before now) is h
