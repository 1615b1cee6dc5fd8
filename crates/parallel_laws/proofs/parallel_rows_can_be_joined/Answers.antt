use Rattle.parallel_laws.proofs.ParallelRows.{owes}
use Rattle.parallel_laws.proofs.parallel_rows_can_be_joined.Goals as goal

pub returns : goal.returns
returns c = owes
