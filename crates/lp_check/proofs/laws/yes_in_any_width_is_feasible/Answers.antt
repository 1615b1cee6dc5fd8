use Rattle.lp_check.proofs.AnyWidth.{feasible_of, yes_of, no_not}
use Rattle.lp_check.proofs.laws.yes_in_any_width_is_feasible.Goals as goal

pub returns-clause-feasible : goal.returns-clause-feasible
returns-clause-feasible c = feasible_of

pub returns-clause-yes : goal.returns-clause-yes
returns-clause-yes c = yes_of

pub returns-clause-no : goal.returns-clause-no
returns-clause-no c = no_not

pub returns-clause-past : goal.returns-clause-past
returns-clause-past c = λ M x item d. c.any_width_has_room.ensures.sums M x item d.1
