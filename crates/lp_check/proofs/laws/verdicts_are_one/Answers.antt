use Rattle.fractions.specs.Room.{in_frac}
use Rattle.lp_check.proofs.OneVerdict.{one_verdict}
use Rattle.lp_check.proofs.laws.verdicts_are_one.Goals as goal

pub returns : goal.returns
returns c = one_verdict in_frac
