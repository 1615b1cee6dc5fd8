use Rattle.presolve_model.proofs.ByCases.{sleepers_read_ends}
use Rattle.presolve_model.proofs.Forms.{enabled_by_form, parts_by_form}
use Rattle.presolve_model.proofs.laws.forms_decide.Goals as goal

pub returns-clause-parts : goal.returns-clause-parts
returns-clause-parts c = parts_by_form

pub returns-clause-enabled : goal.returns-clause-enabled
returns-clause-enabled c = enabled_by_form

pub returns-clause-awake : goal.returns-clause-awake
returns-clause-awake c = sleepers_read_ends
