use Rattle.whole_way.proofs.Whole.{best_whole, pairs_whole, whole}
use Rattle.whole_way.proofs.laws.solutions_come_back_in_kind.Goals as goal

pub returns-clause-comes_back : goal.returns-clause-comes_back
returns-clause-comes_back g c = whole g.T.Textual.texts (record { fault = c.written_pair_is_read_in_kind.ensures.fault; point = c.written_pair_is_read_in_kind.ensures.point; duals = c.written_pair_is_read_in_kind.ensures.duals })

pub returns-clause-best : goal.returns-clause-best
returns-clause-best g c = best_whole g.T.Textual.texts (record { fault = c.written_pair_is_read_in_kind.ensures.fault; point = c.written_pair_is_read_in_kind.ensures.point; duals = c.written_pair_is_read_in_kind.ensures.duals })

pub returns-clause-pairs : goal.returns-clause-pairs
returns-clause-pairs g c = pairs_whole g.T.Textual.texts (record { fault = c.written_pair_is_read_in_kind.ensures.fault; point = c.written_pair_is_read_in_kind.ensures.point; duals = c.written_pair_is_read_in_kind.ensures.duals })
