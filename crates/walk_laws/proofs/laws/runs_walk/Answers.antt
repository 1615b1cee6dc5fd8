use Rattle.walk_laws.proofs.Running.{run_walks}
use Rattle.walk_laws.proofs.laws.runs_walk.Goals as goal

pub returns : goal.returns
returns c = run_walks
