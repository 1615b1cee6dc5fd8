use Rattle.threaded_passes.specs.Shares.{AreInTurn}
use Rattle.threaded_passes.proofs.found.join_all.Given as goal

-- the lists of the places so far
abbrev pub invariant-loop-place : goal.invariant-loop-place
invariant-loop-place l = AreInTurn l.lists l.place l.all.items
