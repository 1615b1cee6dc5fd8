use Rattle.walk_laws.proofs.Naming.{named}
use Rattle.walk_laws.proofs.laws.records_name_reductions.Goals as goal

pub returns : goal.returns
returns c = named
