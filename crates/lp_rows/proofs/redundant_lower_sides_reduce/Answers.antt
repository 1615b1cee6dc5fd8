use Rattle.lp_rows.proofs.RedundantSide.{lower_side_kept, lower_side_kept_pairs}
use Rattle.lp_rows.proofs.redundant_lower_sides_reduce.Goals as goal

pub returns-clause-points : goal.returns-clause-points
returns-clause-points c = lower_side_kept

pub returns-clause-pairs : goal.returns-clause-pairs
returns-clause-pairs c = lower_side_kept_pairs
