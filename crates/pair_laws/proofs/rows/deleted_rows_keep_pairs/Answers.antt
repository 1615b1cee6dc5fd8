use Rattle.pair_laws.proofs.RowPairs.{empty_row_pair, redundant_row_pair, singleton_row_pair}
use Rattle.pair_laws.proofs.rows.deleted_rows_keep_pairs.Goals as goal

pub returns-clause-empty : goal.returns-clause-empty
returns-clause-empty c = empty_row_pair

pub returns-clause-singleton : goal.returns-clause-singleton
returns-clause-singleton c = singleton_row_pair

pub returns-clause-redundant : goal.returns-clause-redundant
returns-clause-redundant c = redundant_row_pair
