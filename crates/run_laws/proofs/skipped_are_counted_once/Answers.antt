use Rattle.run_laws.proofs.Distinct.{counted_once}
use Rattle.run_laws.proofs.skipped_are_counted_once.Goals as goal

pub returns : goal.returns
returns c = counted_once
