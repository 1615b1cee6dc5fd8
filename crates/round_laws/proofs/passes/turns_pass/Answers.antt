use Rattle.round_laws.proofs.Turns.{met, met_asleep, met_over, met_stale}
use Rattle.round_laws.proofs.Thinning.{passed_beside, passed_found, passed_listed}
use Rattle.round_laws.proofs.Tracking.{passed_on}
use Rattle.round_laws.proofs.passes.turns_pass.Goals as goal

pub returns-clause-over : goal.returns-clause-over
returns-clause-over c = met_over

pub returns-clause-met : goal.returns-clause-met
returns-clause-met c = met

pub returns-clause-asleep : goal.returns-clause-asleep
returns-clause-asleep c = met_asleep

pub returns-clause-found : goal.returns-clause-found
returns-clause-found c = passed_found

pub returns-clause-beside : goal.returns-clause-beside
returns-clause-beside c = passed_beside

pub returns-clause-listed : goal.returns-clause-listed
returns-clause-listed c = passed_listed

pub returns-clause-more : goal.returns-clause-more
returns-clause-more c = passed_on

pub returns-clause-stale : goal.returns-clause-stale
returns-clause-stale c = met_stale
