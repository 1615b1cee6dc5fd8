use Rattle.lp_rows.proofs.SingletonRow.{singleton_row, singleton_row_pairs}
use Rattle.lp_rows.proofs.singleton_rows_reduce.Goals as goal

pub returns-clause-points : goal.returns-clause-points
returns-clause-points c = λ d M i j r. singleton_row M i j r d

pub returns-clause-pairs : goal.returns-clause-pairs
returns-clause-pairs c = singleton_row_pairs
