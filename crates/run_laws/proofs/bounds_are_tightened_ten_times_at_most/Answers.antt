use Rattle.run_laws.proofs.TenTimes.{ten_at_most}
use Rattle.run_laws.proofs.bounds_are_tightened_ten_times_at_most.Goals as goal

pub returns : goal.returns
returns c = ten_at_most
