use Rattle.lp_columns.proofs.BestPlace.{best_reduces, best_pairs}
use Rattle.lp_columns.proofs.laws.columns_at_their_best_place_reduce.Goals as goal

pub returns-clause-points : goal.returns-clause-points
returns-clause-points c = best_reduces

pub returns-clause-pairs : goal.returns-clause-pairs
returns-clause-pairs c = best_pairs
