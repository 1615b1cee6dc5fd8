use Rattle.mps_named.proofs.NumberRoom.{on-number}
use Rattle.mps_named.proofs.read_is_writable.Goals as goal

pub returns : goal.returns
returns c = on-number
