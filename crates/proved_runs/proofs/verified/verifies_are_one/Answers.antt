use Rattle.proved_runs.proofs.OneVerify.{verify_same}
use Rattle.proved_runs.proofs.verified.verifies_are_one.Goals as goal

pub returns : goal.returns
returns c = verify_same
