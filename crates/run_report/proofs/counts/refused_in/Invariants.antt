use Rattle.std.proofs.Common.{◌≡◌, ◌++◌, length}
use Rattle.run_report.specs.Counts.{refused_in}
use Rattle.run_report.proofs.counts.refused_in.Given as goal

-- those so far, and those that are left
abbrev pub invariant-loop-rest : goal.invariant-loop-rest
invariant-loop-rest l = l.found.items ++ refused_in l.rest ≡ refused_in l.held

abbrev pub decreases-loop-rest : goal.decreases-loop-rest
decreases-loop-rest l = length l.rest
