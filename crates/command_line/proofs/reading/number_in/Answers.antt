use Rattle.command_line.proofs.Numbers.{number_is}
use Rattle.command_line.proofs.reading.number_in.Goals as goal

pub returns-clause-said : goal.returns-clause-said
returns-clause-said c = number_is c.args.least c.args.most c.args.text.now c.value_in.result c.value_in.ensures.given c.value_in.ensures.none
