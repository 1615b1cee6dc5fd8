use Rattle.lp_rows.proofs.BoundTightening.{lower_bound_implied, lower_bound_implied_pairs}
use Rattle.lp_rows.proofs.lower_bound_tightenings_reduce.Goals as goal

pub returns-clause-points : goal.returns-clause-points
returns-clause-points c = lower_bound_implied

pub returns-clause-pairs : goal.returns-clause-pairs
returns-clause-pairs c = lower_bound_implied_pairs
