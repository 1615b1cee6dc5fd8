use Rattle.activity_laws.proofs.BoundTightening.{improves, owes}
use Rattle.activity_laws.proofs.bounds_can_be_tightened.Goals as goal

pub returns-clause-owes : goal.returns-clause-owes
returns-clause-owes c = owes

pub returns-clause-improves : goal.returns-clause-improves
returns-clause-improves c = improves
