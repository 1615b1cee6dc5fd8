use Rattle.std.proofs.Common.{refl}
use Rattle.presolve_model.proofs.Tightened.{tightened_differ, tightened_read, tightened_rise}
use Rattle.presolve_model.proofs.tightening.bound_tightenings_change.Goals as goal

pub returns-clause-differ : goal.returns-clause-differ
returns-clause-differ c = tightened_differ

pub returns-clause-rise : goal.returns-clause-rise
returns-clause-rise c = tightened_rise

pub returns-clause-read : goal.returns-clause-read
returns-clause-read c = tightened_read

pub returns-clause-alike : goal.returns-clause-alike
returns-clause-alike c = λ p i j k side other. refl
