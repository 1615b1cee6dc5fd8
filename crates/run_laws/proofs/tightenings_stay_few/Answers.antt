use Rattle.run_laws.proofs.TenTimes.{round_few, run_few}
use Rattle.run_laws.proofs.tightenings_stay_few.Goals as goal

pub returns-clause-round : goal.returns-clause-round
returns-clause-round c = round_few

pub returns-clause-run : goal.returns-clause-run
returns-clause-run c = run_few
