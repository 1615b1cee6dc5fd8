use Rattle.presolve_model.proofs.Tabled.{sound_record, names_live, flags_after}
use Rattle.presolve_model.proofs.laws.records_are_sound.Goals as goal

pub returns-clause-sound : goal.returns-clause-sound
returns-clause-sound c = sound_record

pub returns-clause-live : goal.returns-clause-live
returns-clause-live c = names_live

pub returns-clause-flags : goal.returns-clause-flags
returns-clause-flags c = flags_after
