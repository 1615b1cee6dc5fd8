use Rattle.presolve_model.proofs.Histories.{numbers_decide, counted_along, told_along}
use Rattle.presolve_model.proofs.laws.numbers_decide.Goals as goal

pub returns-clause-told : goal.returns-clause-told
returns-clause-told c = told_along

pub returns-clause-same : goal.returns-clause-same
returns-clause-same c = numbers_decide

pub returns-clause-few : goal.returns-clause-few
returns-clause-few c = counted_along
