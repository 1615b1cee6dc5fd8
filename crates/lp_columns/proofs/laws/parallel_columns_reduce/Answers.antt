use Rattle.lp_columns.proofs.ParallelColumns.{parallel_columns}
use Rattle.lp_columns.proofs.ParallelPairs.{parallel_columns_pairs}
use Rattle.lp_columns.proofs.laws.parallel_columns_reduce.Goals as goal

pub returns-clause-points : goal.returns-clause-points
returns-clause-points c = λ d M j k s f. parallel_columns M j k s f d

pub returns-clause-pairs : goal.returns-clause-pairs
returns-clause-pairs c = parallel_columns_pairs
