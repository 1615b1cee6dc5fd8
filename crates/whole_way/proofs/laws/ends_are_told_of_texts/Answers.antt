use Rattle.whole_way.proofs.EndsTold.{ends_told}
use Rattle.whole_way.proofs.laws.ends_are_told_of_texts.Goals as goal

pub returns : goal.returns
returns c = ends_told
