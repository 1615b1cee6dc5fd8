use Rattle.pair_laws.proofs.ColumnPairs.{rounded_bounds_pair}
use Rattle.pair_laws.proofs.columns.rounded_bounds_keep_pairs.Goals as goal

pub returns : goal.returns
returns c = rounded_bounds_pair
