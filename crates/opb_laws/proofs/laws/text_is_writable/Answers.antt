use Rattle.opb_laws.proofs.Writing.{text_writable}
use Rattle.opb_laws.proofs.laws.text_is_writable.Goals as goal

pub returns : goal.returns
returns c = text_writable
