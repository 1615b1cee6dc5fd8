use Rattle.lp_theory.proofs.SparseSums.{sparse-dense}
use Rattle.lp_theory.proofs.sparse_sums_are_sums.Goals as goal

pub returns : goal.returns
returns c = sparse-dense
