use Rattle.exact_simplex.proofs.OneAnswer.{answer_one}
use Rattle.exact_simplex.proofs.laws.answers_are_one.Goals as goal

pub returns : goal.returns
returns c = answer_one
