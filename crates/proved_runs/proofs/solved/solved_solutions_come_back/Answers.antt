use Rattle.proved_runs.proofs.SolvedBack.{solved_back}
use Rattle.proved_runs.proofs.solved.solved_solutions_come_back.Goals as goal

pub returns : goal.returns
returns c = solved_back c.pairs_are_read_again.ensures c.narrow_solutions_are_wide.ensures
