use Rattle.lp_theory.proofs.Reaching.{least_reached, greatest_reached, least_rest_reached, greatest_rest_reached}
use Rattle.lp_theory.proofs.activities_are_reached_at_ends.Goals as goal

pub returns-clause-least : goal.returns-clause-least
returns-clause-least c = least_reached

pub returns-clause-greatest : goal.returns-clause-greatest
returns-clause-greatest c = greatest_reached

pub returns-clause-least_rest : goal.returns-clause-least_rest
returns-clause-least_rest c = least_rest_reached

pub returns-clause-greatest_rest : goal.returns-clause-greatest_rest
returns-clause-greatest_rest c = greatest_rest_reached
