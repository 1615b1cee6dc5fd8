use Rattle.proved_runs.proofs.LeftVerified.{left_is_verified}
use Rattle.proved_runs.proofs.verified.what_presolve_left_is_verified.Goals as goal

pub returns : goal.returns
returns c = left_is_verified
