use Rattle.run_laws.proofs.OneProblem.{one_problem}
use Rattle.run_laws.proofs.Runs.{ordered_same}
use Rattle.run_laws.proofs.runs_are_one.Goals as goal

pub returns-clause-problem : goal.returns-clause-problem
returns-clause-problem c = one_problem

pub returns-clause-run : goal.returns-clause-run
returns-clause-run c = ordered_same
