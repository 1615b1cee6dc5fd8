use Rattle.singleton_laws.proofs.CrossedBounds.{decides}
use Rattle.singleton_laws.proofs.crossed_bounds_decide.Goals as goal

pub returns : goal.returns
returns c = decides
