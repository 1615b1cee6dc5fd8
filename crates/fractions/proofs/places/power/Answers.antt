use Rattle.std.proofs.Common.{arith}
use Rattle.fractions.proofs.Powers.{power_below, power_positive}
use Rattle.fractions.proofs.places.power.Goals as goal

pub pow-requires : goal.pow-requires
pow-requires c = omega (arith, power_below c.args.k c.requires)

pub returns-clause-small : goal.returns-clause-small
returns-clause-small c = omega (arith, power_below c.args.k c.requires, c.pow.ensures)

pub returns-clause-positive : goal.returns-clause-positive
returns-clause-positive c = omega (arith, power_positive c.args.k, c.pow.ensures)
