use Rattle.presolve_model.proofs.ByCases.{records_tallied, tallied_long}
use Rattle.presolve_model.proofs.Tallying.{none_long, none_tallied, open_same}
use Rattle.presolve_model.proofs.laws.tallies_follow_records.Goals as goal

pub returns-clause-first : goal.returns-clause-first
returns-clause-first c = λ n. (none_long n, none_tallied n)

pub returns-clause-more : goal.returns-clause-more
returns-clause-more c = records_tallied

pub returns-clause-columns : goal.returns-clause-columns
returns-clause-columns c = tallied_long

pub returns-clause-same : goal.returns-clause-same
returns-clause-same c = open_same
