use Rattle.mps_laws.proofs.Objective.{comes_to_end, has_objective}
use Rattle.mps_laws.proofs.Senses.{not_awaited}
use Rattle.mps_laws.proofs.reading_laws.sound_texts_are_whole.Goals as goal

pub returns : goal.returns
returns c = record { ends = comes_to_end; objective = has_objective; sense = not_awaited }
