use Rattle.lp_columns.proofs.EmptyColumn.{empty_column, empty_column_pairs}
use Rattle.lp_columns.proofs.laws.empty_columns_reduce.Goals as goal

pub returns-clause-points : goal.returns-clause-points
returns-clause-points c = empty_column

pub returns-clause-pairs : goal.returns-clause-pairs
returns-clause-pairs c = empty_column_pairs
