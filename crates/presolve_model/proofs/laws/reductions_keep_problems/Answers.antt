use Rattle.presolve_model.proofs.Tabled.{sound_changed, same_size, writable_changed}
use Rattle.presolve_model.proofs.laws.reductions_keep_problems.Goals as goal

pub returns-clause-sound : goal.returns-clause-sound
returns-clause-sound c = sound_changed

pub returns-clause-size : goal.returns-clause-size
returns-clause-size c = same_size

pub returns-clause-writable : goal.returns-clause-writable
returns-clause-writable c = λ numbers p r s w e. writable_changed p r s e numbers w
