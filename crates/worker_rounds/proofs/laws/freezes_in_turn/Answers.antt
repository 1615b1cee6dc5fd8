use Rattle.worker_rounds.proofs.Later.{later_version}
use Rattle.worker_rounds.proofs.laws.freezes_in_turn.Goals as goal

pub returns : goal.returns
returns c = later_version
