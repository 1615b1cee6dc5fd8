use Rattle.simplex_laws.proofs.OneEnd.{ends_one, best_one}
use Rattle.simplex_laws.proofs.runs_have_one_end.Goals as goal

pub returns-clause-outcome : goal.returns-clause-outcome
returns-clause-outcome c = ends_one

pub returns-clause-best : goal.returns-clause-best
returns-clause-best c = best_one
