use Rattle.presolve_model.proofs.Tabled.{pairs_changed, continuous_changed}
use Rattle.presolve_model.proofs.laws.reductions_keep_pairs.Goals as goal

pub returns-clause-pairs : goal.returns-clause-pairs
returns-clause-pairs c = pairs_changed

pub returns-clause-continuous : goal.returns-clause-continuous
returns-clause-continuous c = continuous_changed
