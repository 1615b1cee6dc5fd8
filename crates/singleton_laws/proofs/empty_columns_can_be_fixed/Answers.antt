use Rattle.singleton_laws.proofs.EmptyColumn.{owes}
use Rattle.singleton_laws.proofs.empty_columns_can_be_fixed.Goals as goal

pub returns : goal.returns
returns c = owes
