use Rattle.lp_theory.proofs.ActivityLaws.{value-rest, least_rest-off, greatest_rest-off}
use Rattle.lp_theory.proofs.rests_bound_the_rest_of_a_value.Goals as goal

pub returns-clause-parts : goal.returns-clause-parts
returns-clause-parts c = value-rest

pub returns-clause-low : goal.returns-clause-low
returns-clause-low c = least_rest-off

pub returns-clause-high : goal.returns-clause-high
returns-clause-high c = greatest_rest-off
