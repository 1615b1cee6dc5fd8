use Rattle.std.proofs.Common.{length}
use Rattle.threaded_passes.proofs.Listing.{IsOn}
use Rattle.threaded_passes.proofs.listed.visit_listed.Given as goal

-- what comes of those that are left is what comes of all
abbrev pub invariant-loop-rest : goal.invariant-loop-rest
invariant-loop-rest l = IsOn l.walk.frozen.now.value l.found l.initial.watch l.initial.book l.rest l.watch l.book

abbrev pub decreases-loop-rest : goal.decreases-loop-rest
decreases-loop-rest l = length l.rest
