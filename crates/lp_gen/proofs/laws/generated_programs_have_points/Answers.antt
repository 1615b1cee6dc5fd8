use Rattle.lp_gen.proofs.Points.{ones_feasible, cost_not_negative, not_endless, point_there}
use Rattle.lp_gen.proofs.laws.generated_programs_have_points.Goals as goal

pub returns-clause-feasible : goal.returns-clause-feasible
returns-clause-feasible c = ones_feasible

pub returns-clause-costs : goal.returns-clause-costs
returns-clause-costs c = cost_not_negative

pub returns-clause-undecided : goal.returns-clause-undecided
returns-clause-undecided c = not_endless

pub returns-clause-there : goal.returns-clause-there
returns-clause-there c = point_there
