use Rattle.proved_runs.proofs.OneSolve.{solve_same}
use Rattle.proved_runs.proofs.solved.solves_are_one.Goals as goal

pub returns : goal.returns
returns c = solve_same
