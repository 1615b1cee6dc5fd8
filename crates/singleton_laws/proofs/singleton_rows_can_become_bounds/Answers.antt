use Rattle.singleton_laws.proofs.SingletonRow.{owes}
use Rattle.singleton_laws.proofs.singleton_rows_can_become_bounds.Goals as goal

pub returns : goal.returns
returns c = owes
