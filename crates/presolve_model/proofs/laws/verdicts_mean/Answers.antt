use Rattle.presolve_model.proofs.ByCases.{verdicts_mean, meant_back, meant_in}
use Rattle.presolve_model.proofs.laws.verdicts_mean.Goals as goal

pub returns-clause-here : goal.returns-clause-here
returns-clause-here c = verdicts_mean

pub returns-clause-before : goal.returns-clause-before
returns-clause-before c = meant_back

pub returns-clause-in_sense : goal.returns-clause-in_sense
returns-clause-in_sense c = meant_in
