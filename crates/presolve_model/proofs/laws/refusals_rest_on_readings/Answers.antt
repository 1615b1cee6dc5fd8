use Rattle.fractions.specs.declared.Numbers.TheVariants as numbers
use Rattle.presolve_model.proofs.ByCases.{refusals_rest}
use Rattle.presolve_model.proofs.Tabled.{applied_alike}
use Rattle.presolve_model.proofs.laws.refusals_rest_on_readings.Goals as goal

pub returns-clause-fits : goal.returns-clause-fits
returns-clause-fits c = λ p q r t e h. (refusals_rest numbers.Decimal p q r t e h).0

pub returns-clause-written : goal.returns-clause-written
returns-clause-written c = λ n p q r t e h. (refusals_rest n p q r t e h).1

pub returns-clause-applied : goal.returns-clause-applied
returns-clause-applied c = applied_alike
