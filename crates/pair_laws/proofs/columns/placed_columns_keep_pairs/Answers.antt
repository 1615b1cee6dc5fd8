use Rattle.pair_laws.proofs.ColumnPairs.{cost_pair, dominated_column_pair, empty_column_pair}
use Rattle.pair_laws.proofs.columns.placed_columns_keep_pairs.Goals as goal

pub returns-clause-cost : goal.returns-clause-cost
returns-clause-cost c = cost_pair

pub returns-clause-dominated : goal.returns-clause-dominated
returns-clause-dominated c = dominated_column_pair

pub returns-clause-empty : goal.returns-clause-empty
returns-clause-empty c = empty_column_pair
