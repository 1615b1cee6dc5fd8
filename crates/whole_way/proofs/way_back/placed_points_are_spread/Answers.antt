use Rattle.whole_way.proofs.Placing.{placed_spread}
use Rattle.whole_way.proofs.way_back.placed_points_are_spread.Goals as goal

pub returns : goal.returns
returns c = placed_spread
