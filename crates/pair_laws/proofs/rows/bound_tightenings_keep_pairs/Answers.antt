use Rattle.pair_laws.proofs.RowPairs.{tightened_lower_pair, tightened_upper_pair}
use Rattle.pair_laws.proofs.rows.bound_tightenings_keep_pairs.Goals as goal

pub returns-clause-lower : goal.returns-clause-lower
returns-clause-lower c = tightened_lower_pair

pub returns-clause-upper : goal.returns-clause-upper
returns-clause-upper c = tightened_upper_pair
