use Rattle.exact_simplex.proofs.AnswerLaws.{answer_true}
use Rattle.exact_simplex.proofs.laws.answers_are_true.Goals as goal

pub returns : goal.returns
returns c = answer_true
