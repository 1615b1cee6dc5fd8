use Rattle.lp_substitutions.proofs.FreeColumnSingleton.{free_column_singleton_reduces, free_column_singleton_pairs}
use Rattle.lp_substitutions.proofs.free_column_singletons_reduce.Goals as goal

pub returns-clause-points : goal.returns-clause-points
returns-clause-points c = free_column_singleton_reduces

pub returns-clause-pairs : goal.returns-clause-pairs
returns-clause-pairs c = free_column_singleton_pairs
