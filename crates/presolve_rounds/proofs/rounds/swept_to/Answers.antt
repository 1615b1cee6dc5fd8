use Rattle.presolve_rounds.proofs.Running.{some_of}
use Rattle.presolve_rounds.proofs.rounds.swept_to.Goals as goal

pub returns-then-is_some : goal.returns-then-is_some
returns-then-is_some c = some_of c.verdict.result c.args.book.now.verdict c.verdict.ensures c.if-is_some.ensures
