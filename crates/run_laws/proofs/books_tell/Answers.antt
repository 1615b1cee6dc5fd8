use Rattle.run_laws.proofs.Telling.{are_told, walked, told_sound, program_ascends, program_written, decided}
use Rattle.run_laws.proofs.books_tell.Goals as goal

pub returns-clause-walked : goal.returns-clause-walked
returns-clause-walked c = walked

pub returns-clause-sound : goal.returns-clause-sound
returns-clause-sound c = told_sound

pub returns-clause-told : goal.returns-clause-told
returns-clause-told c = are_told

pub returns-clause-ascends : goal.returns-clause-ascends
returns-clause-ascends c = program_ascends

pub returns-clause-writable : goal.returns-clause-writable
returns-clause-writable c = program_written

pub returns-clause-decided : goal.returns-clause-decided
returns-clause-decided c = decided
