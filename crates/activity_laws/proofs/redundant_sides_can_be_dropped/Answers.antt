use Rattle.activity_laws.proofs.RedundantSide.{owes}
use Rattle.activity_laws.proofs.redundant_sides_can_be_dropped.Goals as goal

pub returns : goal.returns
returns c = owes
