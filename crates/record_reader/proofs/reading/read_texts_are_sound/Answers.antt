use Rattle.record_reader.proofs.KeptLaws.{sound_text, named_text, told_text}
use Rattle.record_reader.proofs.reading.read_texts_are_sound.Goals as goal

pub returns-clause-sound : goal.returns-clause-sound
returns-clause-sound c = λ text h. sound_text text h

pub returns-clause-named : goal.returns-clause-named
returns-clause-named c = λ text h. named_text text

pub returns-clause-told : goal.returns-clause-told
returns-clause-told c = λ text h. told_text text h
