use Rattle.mps_laws.proofs.Names.{program_well_named}
use Rattle.mps_laws.proofs.name_laws.programs_are_well_named.Goals as goal

pub returns : goal.returns
returns c = program_well_named
