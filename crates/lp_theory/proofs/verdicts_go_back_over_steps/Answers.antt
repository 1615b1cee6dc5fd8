use Rattle.lp_theory.specs.Joining.{end_of, lift, offset_of}
use Rattle.lp_theory.proofs.Joins.{joined}
use Rattle.lp_theory.proofs.Verdicts.{no_point_back, endless_back, no_point_or_endless_back}
use Rattle.lp_theory.proofs.verdicts_go_back_over_steps.Goals as goal

pub returns-clause-none : goal.returns-clause-none
returns-clause-none c = λ d M steps h. no_point_back d M (end_of M steps) (lift steps) (offset_of steps) (joined d M steps h)

pub returns-clause-endless : goal.returns-clause-endless
returns-clause-endless c = λ d M steps h. endless_back d M (end_of M steps) (lift steps) (offset_of steps) (joined d M steps h)

pub returns-clause-either : goal.returns-clause-either
returns-clause-either c = λ d M steps h. no_point_or_endless_back d M (end_of M steps) (lift steps) (offset_of steps) (joined d M steps h)
