use Rattle.mps_laws.proofs.Names.{objective_found}
use Rattle.mps_laws.proofs.name_laws.objectives_are_first.Goals as goal

pub returns : goal.returns
returns c = objective_found
