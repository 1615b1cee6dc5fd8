use Rattle.written_laws.proofs.ComingBack.{program_back}
use Rattle.written_laws.proofs.laws.programs_come_back.Goals as goal

pub returns : goal.returns
returns c = program_back
