use Rattle.std.proofs.Common.{◌-◌, length}
use Rattle.std.specs.List.{All}
use Rattle.threaded_passes.specs.Sums.{AreSumsIn}
use Rattle.threaded_passes.proofs.sums.missing_in.Given as goal

-- what was made are sums of rows
abbrev pub invariant-loop-place : goal.invariant-loop-place
invariant-loop-place l = All (AreSumsIn l.problem) l.made.items

abbrev pub decreases-loop-place : goal.decreases-loop-place
decreases-loop-place l = length l.rows - l.place
