use Rattle.std.proofs.Common.{◌≡◌, refl}
use Rattle.command_words.specs.Seen.{migrate_names_of}
use Rattle.endings.proofs.Earlier.{finds_there, kept_since, rose_since, unsettled_since, written_since}
use Rattle.record_texts.specs.declared.no_records.NoRecords.TheVariants.{Refused}
use Rattle.record_texts.specs.declared.reading.TheConstants.{RECORDS_LIMIT}
use Rattle.migrate_command.proofs.Refusing.{refused_as}
use Rattle.migrate_command.proofs.command.migrate.Goals as goal

pub returns-in-Err-Refused-clause-ends : goal.returns-in-Err-Refused-clause-ends
returns-in-Err-Refused-clause-ends g c =
    let names = migrate_names_of c.args.words.now in
    let before = g.F.Files.moment c.args.files.now in
    let now = g.F.Files.moment c.read_within.new.files in
    let same : c.in-Err-Refused.field-0 ≡ Refused c.in-Err-Refused.line = cc in record {
      says = (refused_as names before now c.in-Err-Refused.field-0 c.in-Err-Refused.line same (c.in-Err-Refused.ensures names before now c.in-Ok.ensures.found), c.read_within.ensures.kept);
      read = λ a b. finds_there RECORDS_LIMIT names.records before now _ c.in-Ok.ensures.found;
    }

pub returns-in-Ok-write-clause-ends : goal.returns-in-Ok-write-clause-ends
returns-in-Ok-write-clause-ends g c =
    let names = migrate_names_of c.args.words.now in
    let before = g.F.Files.moment c.args.files.now in
    let between = g.F.Files.moment c.read_within.new.files in
    let now = g.F.Files.moment c.write.new.self in
    let texts = c.in-Ok-migrated.texts in record {
      says = record {
        text = texts.written.items;
        migrated = c.in-Ok-migrated.ensures names before between c.in-Ok.ensures.found;
        text_written = written_since before.told between.told now.told names.written c.deref.result.now texts.written.items c.read_within.ensures.kept c.deref.ensures.value c.in-Ok-write.ensures.written;
        others = kept_since before.told between.told now.told names.written c.read_within.ensures.kept c.in-Ok-write.ensures.others;
      };
      read = λ a b. finds_there RECORDS_LIMIT names.records before between _ c.in-Ok.ensures.found;
    }

pub returns-in-Err-clause-ends : goal.returns-in-Err-clause-ends
returns-in-Err-clause-ends g c =
    let names = migrate_names_of c.args.words.now in
    let before = g.F.Files.moment c.args.files.now in
    let between = g.F.Files.moment c.read_within.new.files in
    let now = g.F.Files.moment c.write.new.self in
    let texts = c.in-Ok-migrated.texts in record {
      says = (
        record {
          text = texts.written.items;
          printed = texts.printed.items;
          migrated = c.in-Ok-migrated.ensures names before between c.in-Ok.ensures.found;
          fails = rose_since before.writes between.writes now.writes names.written c.read_within.ensures.writes_stay c.in-Err.ensures.failed;
          unsettled = unsettled_since before.told between.told now.told names.written c.read_within.ensures.kept c.in-Err.ensures.unsettled;
          others = kept_since before.told between.told now.told names.written c.read_within.ensures.kept c.in-Err.ensures.others;
        },
        refl,
      );
      read = λ a b. finds_there RECORDS_LIMIT names.records before between _ c.in-Ok.ensures.found;
    }
