use Rattle.exact_texts.specs.Kinds.{room_of}
use Rattle.two_runs.proofs.OneLifting.{lifted_or_stopped, lifted_same, stopped_same}
use Rattle.two_runs.proofs.same_answers.liftings_are_one.Goals as goal

pub returns-clause-lifted : goal.returns-clause-lifted
returns-clause-lifted c = λ wide. lifted_same (room_of wide)

pub returns-clause-stopped : goal.returns-clause-stopped
returns-clause-stopped c = λ wide. stopped_same (room_of wide)

pub returns-clause-apart : goal.returns-clause-apart
returns-clause-apart c = λ wide. lifted_or_stopped (room_of wide)
