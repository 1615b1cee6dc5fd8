use Rattle.dual_laws.proofs.DualFixing.{owes}
use Rattle.dual_laws.proofs.columns_can_be_dual_fixed.Goals as goal

pub returns : goal.returns
returns c = owes
