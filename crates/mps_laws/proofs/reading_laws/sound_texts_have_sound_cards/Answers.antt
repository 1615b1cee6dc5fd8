use Rattle.mps_laws.proofs.Faultless.{faultless}
use Rattle.mps_laws.proofs.reading_laws.sound_texts_have_sound_cards.Goals as goal

pub returns : goal.returns
returns c = faultless
