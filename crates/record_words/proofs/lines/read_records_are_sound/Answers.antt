use Rattle.record_fields.specs.Words.{first, others}
use Rattle.record_words.specs.Rules.{rule_of}
use Rattle.record_words.proofs.Soundness.{sound_by}
use Rattle.record_words.proofs.lines.read_records_are_sound.Goals as goal

pub returns-clause-sound : goal.returns-clause-sound
returns-clause-sound c = λ f line h. (sound_by f (rule_of (first line)) (others line) h).0

pub returns-clause-live : goal.returns-clause-live
returns-clause-live c = λ f line h. (sound_by f (rule_of (first line)) (others line) h).1
