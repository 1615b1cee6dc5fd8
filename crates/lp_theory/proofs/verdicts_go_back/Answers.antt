use Rattle.lp_theory.proofs.Verdicts.{no_point_back, endless_back, no_point_or_endless_back}
use Rattle.lp_theory.proofs.verdicts_go_back.Goals as goal

pub returns-clause-none : goal.returns-clause-none
returns-clause-none c = no_point_back

pub returns-clause-endless : goal.returns-clause-endless
returns-clause-endless c = endless_back

pub returns-clause-either : goal.returns-clause-either
returns-clause-either c = no_point_or_endless_back
