use Rattle.whole_way.proofs.Back.{best_back, none_lost, point_back}
use Rattle.whole_way.proofs.way_back.points_come_back.Goals as goal

pub returns-clause-comes_back : goal.returns-clause-comes_back
returns-clause-comes_back c = point_back

pub returns-clause-none_lost : goal.returns-clause-none_lost
returns-clause-none_lost c = none_lost

pub returns-clause-best : goal.returns-clause-best
returns-clause-best c = best_back
