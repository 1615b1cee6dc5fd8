use Rattle.std.proofs.Common.{◌≡◌, length}
use Rattle.threaded_passes.proofs.sums.keep_sums_by_threads.Given as goal

-- the book is the same
abbrev pub invariant-loop-rest : goal.invariant-loop-rest
invariant-loop-rest g l = l.book ≡ l.initial.book

abbrev pub decreases-loop-rest : goal.decreases-loop-rest
decreases-loop-rest g l = length l.rest
