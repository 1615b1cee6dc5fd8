use Rattle.pair_laws.proofs.ColumnPairs.{parallel_columns_pair}
use Rattle.pair_laws.proofs.columns.parallel_columns_keep_pairs.Goals as goal

pub returns : goal.returns
returns c = parallel_columns_pair
