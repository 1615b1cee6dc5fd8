use Rattle.mps_named.proofs.ProgramRoom.{program-fits}
use Rattle.mps_named.proofs.program_is_writable.Goals as goal

pub returns : goal.returns
returns c = program-fits
