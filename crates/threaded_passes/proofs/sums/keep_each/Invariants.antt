use Rattle.std.proofs.Common.{◌≡◌, length}
use Rattle.std.specs.List.{All}
use Rattle.threaded_passes.specs.Sums.{AreSumsIn}
use Rattle.threaded_passes.proofs.sums.keep_each.Given as goal

-- the book is the same, and the sums that are left are those of its rows
abbrev pub invariant-loop-rest : goal.invariant-loop-rest
invariant-loop-rest l = (l.book ≡ l.initial.book) × All (AreSumsIn l.book.problem) l.rest

abbrev pub decreases-loop-rest : goal.decreases-loop-rest
decreases-loop-rest l = length l.rest
