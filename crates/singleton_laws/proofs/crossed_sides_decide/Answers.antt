use Rattle.singleton_laws.proofs.CrossedSides.{decides}
use Rattle.singleton_laws.proofs.crossed_sides_decide.Goals as goal

pub returns : goal.returns
returns c = decides
