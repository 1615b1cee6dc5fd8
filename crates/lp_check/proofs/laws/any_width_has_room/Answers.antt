use Rattle.lp_check.proofs.AnyWidth.{never_past, reduced_cost_fits}
use Rattle.lp_check.proofs.laws.any_width_has_room.Goals as goal

pub returns-clause-sums : goal.returns-clause-sums
returns-clause-sums c = never_past

pub returns-clause-reduced_costs : goal.returns-clause-reduced_costs
returns-clause-reduced_costs c = reduced_cost_fits
