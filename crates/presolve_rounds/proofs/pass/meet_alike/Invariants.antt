use Rattle.std.proofs.Common.{length}
use Rattle.presolve_rounds.proofs.Sharing.{IsLeft}
use Rattle.presolve_rounds.proofs.pass.meet_alike.Given as goal

-- none was applied, and what comes of those that are left is what comes of all
abbrev pub invariant-loop-rest : goal.invariant-loop-rest
invariant-loop-rest l = IsLeft l.walk.frozen.now.value l.found l.initial.watch l.initial.book l.rest l.watch l.book

abbrev pub decreases-loop-rest : goal.decreases-loop-rest
decreases-loop-rest l = length l.rest
