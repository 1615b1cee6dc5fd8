use Rattle.std.proofs.Common.{subst, sym}
use Rattle.fractions.specs.Room.{in_frac}
use Rattle.lp_model.specs.LinearProgram.{cost_at}
use Rattle.lp_model.specs.Senses.{NoWorse}
use Rattle.lp_passages.proofs.Optimal.{meets_is_best}
use Rattle.lp_check.proofs.Pairs.{meets_of}
use Rattle.lp_check.proofs.laws.yes_with_duals_is_best.Goals as goal

pub returns-clause-meets : goal.returns-clause-meets
returns-clause-meets c = λ s M x y k continuous decides. meets_of in_frac s M x y k continuous decides

pub returns-clause-best : goal.returns-clause-best
returns-clause-best c = λ s M x y k continuous decides w feasible.
    subst (λ n. NoWorse s n (cost_at M w)) (sym decides.0.2) (meets_is_best s M x y (meets_of in_frac s M x y k continuous decides) w feasible)
