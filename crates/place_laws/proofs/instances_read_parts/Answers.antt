use Rattle.place_laws.proofs.Parts.{reads_parts}
use Rattle.place_laws.proofs.instances_read_parts.Goals as goal

pub returns : goal.returns
returns c = reads_parts
