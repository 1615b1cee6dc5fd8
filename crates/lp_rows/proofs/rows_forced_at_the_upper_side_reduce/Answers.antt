use Rattle.lp_rows.proofs.ForcingRow.{forced_at_upper_side_keeps, forced_at_upper_side_keeps_pairs}
use Rattle.lp_rows.proofs.rows_forced_at_the_upper_side_reduce.Goals as goal

pub returns-clause-points : goal.returns-clause-points
returns-clause-points c = λ d M i f. forced_at_upper_side_keeps M i f d

pub returns-clause-pairs : goal.returns-clause-pairs
returns-clause-pairs c = forced_at_upper_side_keeps_pairs
