use Rattle.fractions.proofs.FiveTable.{table_is}
use Rattle.fractions.proofs.fives.power_of_length.Goals as goal

pub returns : goal.returns
returns c = table_is c.args.bits c.requires
