use Rattle.lp_columns.proofs.FixedColumn.{fixed_column, fixed_column_pairs}
use Rattle.lp_columns.proofs.laws.fixed_columns_reduce.Goals as goal

pub returns-clause-points : goal.returns-clause-points
returns-clause-points c = λ d M j v f. fixed_column M j v f d

pub returns-clause-pairs : goal.returns-clause-pairs
returns-clause-pairs c = λ M j v k f. fixed_column_pairs M j v f k
