use Rattle.pair_laws.proofs.ColumnPairs.{free_pair}
use Rattle.pair_laws.proofs.columns.free_column_singletons_keep_pairs.Goals as goal

pub returns : goal.returns
returns c = free_pair
