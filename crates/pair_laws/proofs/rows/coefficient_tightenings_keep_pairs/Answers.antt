use Rattle.pair_laws.proofs.RowPairs.{coefficient_pair}
use Rattle.pair_laws.proofs.rows.coefficient_tightenings_keep_pairs.Goals as goal

pub returns : goal.returns
returns c = coefficient_pair
