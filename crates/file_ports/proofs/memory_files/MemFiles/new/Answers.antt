use Rattle.std.proofs.Common.{arith}
use Rattle.std.proofs.lemmas.Grind.{common_steps}
use Rattle.file_ports.proofs.Differ.{as_held}
use Rattle.file_ports.proofs.memory_files.MemFiles.new.Goals as goal

pub returns-clause-as_held : goal.returns-clause-as_held
returns-clause-as_held c = as_held c.args.held.now c.loop-one.entries.items c.requires (grind (arith, common_steps))
