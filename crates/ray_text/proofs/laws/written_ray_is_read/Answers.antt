use Rattle.ray_text.proofs.Again.{written_fault, written_ray}
use Rattle.ray_text.proofs.laws.written_ray_is_read.Goals as goal

pub returns-clause-fault : goal.returns-clause-fault
returns-clause-fault c = written_fault

pub returns-clause-ray : goal.returns-clause-ray
returns-clause-ray c = written_ray
