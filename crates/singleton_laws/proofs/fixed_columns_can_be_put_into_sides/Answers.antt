use Rattle.singleton_laws.proofs.FixedColumn.{owes}
use Rattle.singleton_laws.proofs.fixed_columns_can_be_put_into_sides.Goals as goal

pub returns : goal.returns
returns c = owes
