use Rattle.singleton_laws.proofs.EmptyRow.{owes}
use Rattle.singleton_laws.proofs.empty_rows_can_be_deleted.Goals as goal

pub returns : goal.returns
returns c = owes
