use Rattle.presolve_model.proofs.Tabled.{reduces_changed, adds}
use Rattle.presolve_model.proofs.laws.reductions_reduce.Goals as goal

pub returns-clause-shows : goal.returns-clause-shows
returns-clause-shows c = reduces_changed

pub returns-clause-offset : goal.returns-clause-offset
returns-clause-offset c = adds
