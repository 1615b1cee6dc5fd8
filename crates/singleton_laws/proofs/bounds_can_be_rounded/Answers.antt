use Rattle.singleton_laws.proofs.RoundedBounds.{owes}
use Rattle.singleton_laws.proofs.bounds_can_be_rounded.Goals as goal

pub returns : goal.returns
returns c = owes
