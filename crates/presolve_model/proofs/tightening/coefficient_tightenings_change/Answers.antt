use Rattle.std.proofs.Common.{refl}
use Rattle.presolve_model.proofs.Tightened.{coefficient_differs, coefficient_read, coefficient_rises}
use Rattle.presolve_model.proofs.tightening.coefficient_tightenings_change.Goals as goal

pub returns-clause-differ : goal.returns-clause-differ
returns-clause-differ c = coefficient_differs

pub returns-clause-rise : goal.returns-clause-rise
returns-clause-rise c = coefficient_rises

pub returns-clause-read : goal.returns-clause-read
returns-clause-read c = coefficient_read

pub returns-clause-alike : goal.returns-clause-alike
returns-clause-alike c = λ p i j k. refl
