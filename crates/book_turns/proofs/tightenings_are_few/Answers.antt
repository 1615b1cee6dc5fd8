use Rattle.book_turns.proofs.Few.{few_along}
use Rattle.book_turns.proofs.tightenings_are_few.Goals as goal

pub returns : goal.returns
returns c = few_along
