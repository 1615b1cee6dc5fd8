use Rattle.worker_rounds.proofs.Complete.{all_left}
use Rattle.worker_rounds.proofs.laws.rounds_mark_all.Goals as goal

pub returns : goal.returns
returns c = all_left
