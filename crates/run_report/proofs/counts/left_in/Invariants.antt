use Rattle.std.proofs.Common.{◌≡◌, ◌++◌, length}
use Rattle.run_report.specs.Counts.{left_in}
use Rattle.run_report.proofs.counts.left_in.Given as goal

-- those so far, and those that are left
abbrev pub invariant-loop-rest : goal.invariant-loop-rest
invariant-loop-rest l = l.found.items ++ left_in l.rest ≡ left_in l.held

abbrev pub decreases-loop-rest : goal.decreases-loop-rest
decreases-loop-rest l = length l.rest
