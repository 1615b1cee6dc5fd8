use Rattle.pair_laws.proofs.RowPairs.{forced_lower_pair, forced_upper_pair}
use Rattle.pair_laws.proofs.rows.forcing_rows_keep_pairs.Goals as goal

pub returns-clause-lower : goal.returns-clause-lower
returns-clause-lower c = forced_lower_pair

pub returns-clause-upper : goal.returns-clause-upper
returns-clause-upper c = forced_upper_pair
