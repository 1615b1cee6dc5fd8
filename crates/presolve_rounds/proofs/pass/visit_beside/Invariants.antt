use Rattle.std.proofs.Common.{length, map}
use Rattle.presolve_model.specs.Instances.{beside_at}
use Rattle.presolve_rounds.proofs.Beside.{IsUnderway}
use Rattle.presolve_rounds.proofs.pass.visit_beside.Given as goal

-- what comes of those that are left is what comes of all
abbrev pub invariant-loop-rest : goal.invariant-loop-rest
invariant-loop-rest l = IsUnderway l.walk.frozen.now.value (map (beside_at l.rule l.id) l.others) l.initial.watch l.initial.book (map (beside_at l.rule l.id) l.rest) l.watch l.book

abbrev pub decreases-loop-rest : goal.decreases-loop-rest
decreases-loop-rest l = length l.rest
