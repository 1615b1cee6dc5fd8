use Rattle.presolve_model.proofs.Tabled.{enabled_by, numbers_by}
use Rattle.presolve_model.proofs.laws.agreeing_readings_enable.Goals as goal

pub returns-clause-enabled : goal.returns-clause-enabled
returns-clause-enabled c = enabled_by

pub returns-clause-told : goal.returns-clause-told
returns-clause-told c = numbers_by
