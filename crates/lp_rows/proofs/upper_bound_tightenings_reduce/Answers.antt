use Rattle.lp_rows.proofs.BoundTightening.{upper_bound_implied, upper_bound_implied_pairs}
use Rattle.lp_rows.proofs.upper_bound_tightenings_reduce.Goals as goal

pub returns-clause-points : goal.returns-clause-points
returns-clause-points c = upper_bound_implied

pub returns-clause-pairs : goal.returns-clause-pairs
returns-clause-pairs c = upper_bound_implied_pairs
