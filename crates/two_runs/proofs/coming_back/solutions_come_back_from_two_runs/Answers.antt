use Rattle.two_runs.proofs.Back.{best_comes_back, feasible_back, proof_back}
use Rattle.two_runs.proofs.coming_back.solutions_come_back_from_two_runs.Goals as goal

pub returns-clause-feasible : goal.returns-clause-feasible
returns-clause-feasible c = feasible_back c.pairs_are_read_again.ensures

pub returns-clause-best : goal.returns-clause-best
returns-clause-best c = best_comes_back c.pairs_are_read_again.ensures

pub returns-clause-proof : goal.returns-clause-proof
returns-clause-proof c = proof_back c.pairs_are_read_again.ensures
