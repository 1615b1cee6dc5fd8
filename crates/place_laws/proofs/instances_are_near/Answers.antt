use Rattle.place_laws.proofs.Choosing.{marked_complete, noted_each}
use Rattle.place_laws.proofs.instances_are_near.Goals as goal

pub returns-clause-complete : goal.returns-clause-complete
returns-clause-complete c = marked_complete

pub returns-clause-each : goal.returns-clause-each
returns-clause-each c = noted_each
