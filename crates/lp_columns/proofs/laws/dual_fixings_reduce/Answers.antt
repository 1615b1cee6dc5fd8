use Rattle.lp_columns.proofs.DualFixing.{dual_fixing, dual_fixing_pairs}
use Rattle.lp_columns.proofs.laws.dual_fixings_reduce.Goals as goal

pub returns-clause-points : goal.returns-clause-points
returns-clause-points c = dual_fixing

pub returns-clause-pairs : goal.returns-clause-pairs
returns-clause-pairs c = dual_fixing_pairs
