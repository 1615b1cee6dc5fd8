use Rattle.presolve_model.proofs.Listing.{reduction_listed, verdict_listed, listed_all}
use Rattle.presolve_model.proofs.laws.looks_list_all.Goals as goal

pub returns-clause-reductions : goal.returns-clause-reductions
returns-clause-reductions c = reduction_listed

pub returns-clause-verdicts : goal.returns-clause-verdicts
returns-clause-verdicts c = verdict_listed

pub returns-clause-skipped : goal.returns-clause-skipped
returns-clause-skipped c = listed_all
