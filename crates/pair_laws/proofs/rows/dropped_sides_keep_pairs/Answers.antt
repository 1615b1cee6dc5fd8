use Rattle.pair_laws.proofs.RowPairs.{lower_side_pair, upper_side_pair}
use Rattle.pair_laws.proofs.rows.dropped_sides_keep_pairs.Goals as goal

pub returns-clause-lower : goal.returns-clause-lower
returns-clause-lower c = lower_side_pair

pub returns-clause-upper : goal.returns-clause-upper
returns-clause-upper c = upper_side_pair
