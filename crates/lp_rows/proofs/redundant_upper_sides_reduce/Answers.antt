use Rattle.lp_rows.proofs.RedundantSide.{upper_side_kept, upper_side_kept_pairs}
use Rattle.lp_rows.proofs.redundant_upper_sides_reduce.Goals as goal

pub returns-clause-points : goal.returns-clause-points
returns-clause-points c = upper_side_kept

pub returns-clause-pairs : goal.returns-clause-pairs
returns-clause-pairs c = upper_side_kept_pairs
