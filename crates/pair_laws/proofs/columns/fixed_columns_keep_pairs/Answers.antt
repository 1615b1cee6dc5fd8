use Rattle.pair_laws.proofs.ColumnPairs.{fixed_column_pair}
use Rattle.pair_laws.proofs.columns.fixed_columns_keep_pairs.Goals as goal

pub returns : goal.returns
returns c = fixed_column_pair
