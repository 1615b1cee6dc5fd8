use Rattle.pair_laws.proofs.RowPairs.{parallel_rows_pair}
use Rattle.pair_laws.proofs.rows.parallel_rows_keep_pairs.Goals as goal

pub returns : goal.returns
returns c = parallel_rows_pair
