use Rattle.mps_laws.proofs.Places.{differ}
use Rattle.mps_laws.proofs.Names.{rows_numbered, columns_numbered, as_many}
use Rattle.mps_laws.proofs.name_laws.names_are_numbered.Goals as goal

pub returns : goal.returns
returns c = record { rows = rows_numbered; columns = columns_numbered; differ = differ; types = as_many }
