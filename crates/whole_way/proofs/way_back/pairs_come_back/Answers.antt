use Rattle.whole_way.proofs.PairsBack.{pairs_back}
use Rattle.whole_way.proofs.way_back.pairs_come_back.Goals as goal

pub returns : goal.returns
returns c = pairs_back
