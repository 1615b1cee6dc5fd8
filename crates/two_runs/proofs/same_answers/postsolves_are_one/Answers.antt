use Rattle.two_runs.proofs.OnePostsolve.{postsolve_same}
use Rattle.two_runs.proofs.same_answers.postsolves_are_one.Goals as goal

pub returns : goal.returns
returns c = postsolve_same
