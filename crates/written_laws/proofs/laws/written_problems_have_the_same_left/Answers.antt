use Rattle.written_laws.proofs.SameLeft.{written_same_left}
use Rattle.written_laws.proofs.laws.written_problems_have_the_same_left.Goals as goal

pub returns : goal.returns
returns c = written_same_left
