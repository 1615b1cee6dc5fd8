use Rattle.number_texts.proofs.Again.{read-written}
use Rattle.number_texts.proofs.laws.written_is_read.Goals as goal

pub returns : goal.returns
returns c = read-written
