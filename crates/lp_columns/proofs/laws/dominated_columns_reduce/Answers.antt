use Rattle.lp_columns.proofs.DominatedColumn.{dominated_column, dominated_column_pairs}
use Rattle.lp_columns.proofs.laws.dominated_columns_reduce.Goals as goal

pub returns-clause-points : goal.returns-clause-points
returns-clause-points c = dominated_column

pub returns-clause-pairs : goal.returns-clause-pairs
returns-clause-pairs c = dominated_column_pairs
