use Rattle.lp_rows.proofs.ParallelRows.{parallel_rows, parallel_rows_pairs}
use Rattle.lp_rows.proofs.parallel_rows_reduce.Goals as goal

pub returns-clause-points : goal.returns-clause-points
returns-clause-points c = λ d M i k s r. parallel_rows M i k s r d

pub returns-clause-pairs : goal.returns-clause-pairs
returns-clause-pairs c = parallel_rows_pairs
