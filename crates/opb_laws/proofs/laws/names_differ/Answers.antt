use Rattle.opb_laws.proofs.Names.{columns_differ}
use Rattle.opb_laws.proofs.laws.names_differ.Goals as goal

pub returns : goal.returns
returns c = columns_differ
