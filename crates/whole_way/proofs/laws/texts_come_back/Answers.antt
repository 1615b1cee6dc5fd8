use Rattle.whole_way.proofs.Fitting.{texts_fit}
use Rattle.whole_way.proofs.laws.texts_come_back.Goals as goal

pub returns : goal.returns
returns c = texts_fit
