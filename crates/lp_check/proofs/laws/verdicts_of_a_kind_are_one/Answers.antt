use Rattle.lp_check.proofs.OneVerdict.{one_verdict}
use Rattle.lp_check.proofs.OnePairVerdict.{pair_same}
use Rattle.lp_check.proofs.laws.verdicts_of_a_kind_are_one.Goals as goal

pub returns-clause-point : goal.returns-clause-point
returns-clause-point g c = one_verdict g.T.Exact.room

pub returns-clause-pair : goal.returns-clause-pair
returns-clause-pair g c = pair_same g.T.Exact.room (one_verdict g.T.Exact.room)
