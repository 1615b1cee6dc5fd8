use Rattle.dual_laws.proofs.DominatedColumn.{owes}
use Rattle.dual_laws.proofs.dominated_columns_can_be_fixed.Goals as goal

pub returns : goal.returns
returns c = owes
