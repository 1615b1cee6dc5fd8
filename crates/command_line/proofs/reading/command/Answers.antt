use Rattle.command_line.proofs.Pairs.{paired}
use Rattle.command_line.proofs.reading.command.Goals as goal

pub returns : goal.returns
returns c = paired c.subcommand.result _ _ _ _ _ c.subcommand.ensures.name c.subcommand.ensures.rows
