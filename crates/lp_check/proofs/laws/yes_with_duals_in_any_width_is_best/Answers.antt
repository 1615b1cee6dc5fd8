use Rattle.std.proofs.Common.{subst, sym}
use Rattle.fractions.specs.Room.{in_any_width}
use Rattle.lp_model.specs.LinearProgram.{cost_at}
use Rattle.lp_model.specs.Senses.{NoWorse}
use Rattle.lp_passages.proofs.Optimal.{meets_is_best}
use Rattle.lp_check.proofs.AnyWidth.{pair_yes_of}
use Rattle.lp_check.proofs.Pairs.{meets_of}
use Rattle.lp_check.proofs.laws.yes_with_duals_in_any_width_is_best.Goals as goal

pub returns-clause-meets : goal.returns-clause-meets
returns-clause-meets c = meets_of in_any_width

pub returns-clause-best : goal.returns-clause-best
returns-clause-best c = λ s M x y k continuous decides w feasible.
    subst (λ n. NoWorse s n (cost_at M w)) (sym decides.0.2) (meets_is_best s M x y (meets_of in_any_width s M x y k continuous decides) w feasible)

pub returns-clause-yes : goal.returns-clause-yes
returns-clause-yes c = pair_yes_of

pub returns-clause-past : goal.returns-clause-past
returns-clause-past c = λ s M x y item d. c.any_width_has_room.ensures.sums M x item d.0.1

pub returns-clause-past_reduced_cost : goal.returns-clause-past_reduced_cost
returns-clause-past_reduced_cost c = λ s M x y j d. d.4 (c.any_width_has_room.ensures.reduced_costs M y j)
