use Rattle.record_texts.proofs.Found.{records_again, records_told}
use Rattle.migrate_command.proofs.migrated.migrated.Goals as goal

pub returns : goal.returns
returns c = λ names before now finds.
    let records = c.in_ok-records.records in record {
      records = records;
      given = records_told names.records before now _ records finds c.in_ok-records.ensures;
      text = c.in_ok-written.ensures;
      again = records_again c.in_ok-written.written.items _ records c.in_ok-written.ensures c.records_come_back.ensures.sound c.records_come_back.ensures.same;
      count = c.in_ok-printed.ensures;
    }
