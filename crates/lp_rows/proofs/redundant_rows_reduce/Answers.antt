use Rattle.lp_rows.proofs.RedundantRow.{row_kept, row_kept_pairs}
use Rattle.lp_rows.proofs.redundant_rows_reduce.Goals as goal

pub returns-clause-points : goal.returns-clause-points
returns-clause-points c = row_kept

pub returns-clause-pairs : goal.returns-clause-pairs
returns-clause-pairs c = row_kept_pairs
