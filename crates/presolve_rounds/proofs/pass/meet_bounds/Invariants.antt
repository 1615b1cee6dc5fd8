use Rattle.std.proofs.Common.{length}
use Rattle.presolve_model.specs.Tallies.{open_on}
use Rattle.presolve_rounds.specs.Walking.{open_bounds}
use Rattle.presolve_rounds.proofs.Sharing.{IsLeft}
use Rattle.presolve_rounds.proofs.pass.meet_bounds.Given as goal

-- none was applied, and what comes of those that are left is what comes of all
abbrev pub invariant-loop-column : goal.invariant-loop-column
invariant-loop-column l = IsLeft l.walk.frozen.now.value (open_bounds (open_on l.initial.book.tally) l.row l.initial.bounds) l.initial.watch l.initial.book (open_bounds (open_on l.initial.book.tally) l.row l.bounds) l.watch l.book

abbrev pub decreases-loop-column : goal.decreases-loop-column
decreases-loop-column l = length l.bounds
