use Rattle.walk_laws.proofs.OneFlaw.{no_flaw, one_flaw}
use Rattle.walk_laws.proofs.laws.first_flaws_are_one.Goals as goal

pub returns-clause-none : goal.returns-clause-none
returns-clause-none c = no_flaw

pub returns-clause-one : goal.returns-clause-one
returns-clause-one c = one_flaw
