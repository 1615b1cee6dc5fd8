use Rattle.record_round_trip.proofs.Round.{sound_first, same_first, sound_again, same_again}
use Rattle.record_round_trip.proofs.ranges.records_come_back.Goals as goal

pub returns-clause-sound : goal.returns-clause-sound
returns-clause-sound c = sound_again c.args.records.now c.is_sound.ensures c.is_named.ensures c.is_told.ensures c.records_have_range.ensures

pub returns-clause-same : goal.returns-clause-same
returns-clause-same c = same_again c.args.records.now c.is_sound.ensures c.is_named.ensures c.is_told.ensures c.records_have_range.ensures

pub returns-clause-sound_first : goal.returns-clause-sound_first
returns-clause-sound_first c = sound_first c.args.records.now c.is_sound.ensures c.is_named.ensures c.records_have_range.ensures

pub returns-clause-same_first : goal.returns-clause-same_first
returns-clause-same_first c = same_first c.args.records.now c.is_sound.ensures c.is_named.ensures c.records_have_range.ensures
