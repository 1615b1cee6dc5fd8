use Rattle.opb_laws.proofs.Named.{text_well_named}
use Rattle.opb_laws.proofs.laws.text_is_well_named.Goals as goal

pub returns : goal.returns
returns c = text_well_named
