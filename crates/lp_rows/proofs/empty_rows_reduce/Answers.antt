use Rattle.lp_rows.proofs.EmptyRow.{empty_row, empty_row_pairs}
use Rattle.lp_rows.proofs.empty_rows_reduce.Goals as goal

pub returns-clause-points : goal.returns-clause-points
returns-clause-points c = empty_row

pub returns-clause-pairs : goal.returns-clause-pairs
returns-clause-pairs c = empty_row_pairs
