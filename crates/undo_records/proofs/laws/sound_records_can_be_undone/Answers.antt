use Rattle.undo_records.proofs.SoundRecords.{sound_can}
use Rattle.undo_records.proofs.laws.sound_records_can_be_undone.Goals as goal

pub returns : goal.returns
returns c = sound_can
