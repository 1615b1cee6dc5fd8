use Rattle.fractions.specs.Room.{in_frac}
use Rattle.lp_check.proofs.OnePairVerdict.{pair_same}
use Rattle.lp_check.proofs.laws.verdicts_with_duals_are_one.Goals as goal

pub returns : goal.returns
returns c = pair_same in_frac c.verdicts_are_one.ensures
