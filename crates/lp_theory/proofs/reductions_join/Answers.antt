use Rattle.lp_theory.proofs.Joins.{joined, joined_pairs}
use Rattle.lp_theory.proofs.reductions_join.Goals as goal

pub returns-clause-points : goal.returns-clause-points
returns-clause-points c = joined

pub returns-clause-pairs : goal.returns-clause-pairs
returns-clause-pairs c = joined_pairs
