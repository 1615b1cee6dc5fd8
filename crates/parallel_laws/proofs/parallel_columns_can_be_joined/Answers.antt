use Rattle.parallel_laws.proofs.ParallelColumns.{owes}
use Rattle.parallel_laws.proofs.parallel_columns_can_be_joined.Goals as goal

pub returns : goal.returns
returns c = owes
