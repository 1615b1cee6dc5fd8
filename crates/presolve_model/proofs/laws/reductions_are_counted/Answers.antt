use Rattle.presolve_model.proofs.Tabled.{counted_changed}
use Rattle.presolve_model.proofs.laws.reductions_are_counted.Goals as goal

pub returns : goal.returns
returns c = λ p r a s e. counted_changed p r s e a
