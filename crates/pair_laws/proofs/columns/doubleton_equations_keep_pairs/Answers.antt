use Rattle.pair_laws.proofs.ColumnPairs.{equation_pair}
use Rattle.pair_laws.proofs.columns.doubleton_equations_keep_pairs.Goals as goal

pub returns : goal.returns
returns c = equation_pair
