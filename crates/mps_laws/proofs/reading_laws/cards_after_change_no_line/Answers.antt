use Rattle.mps_laws.proofs.Items.{said}
use Rattle.mps_laws.proofs.reading_laws.cards_after_change_no_line.Goals as goal

pub returns : goal.returns
returns c = said
