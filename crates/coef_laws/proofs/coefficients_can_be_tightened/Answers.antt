use Rattle.coef_laws.proofs.CoefficientTightening.{owes, shrinks}
use Rattle.coef_laws.proofs.coefficients_can_be_tightened.Goals as goal

pub returns-clause-owes : goal.returns-clause-owes
returns-clause-owes c = owes

pub returns-clause-shrinks : goal.returns-clause-shrinks
returns-clause-shrinks c = shrinks
