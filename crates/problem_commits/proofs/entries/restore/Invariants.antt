use Rattle.std.proofs.Common.{◌≡◌, length}
use Rattle.problem_commits.specs.Restoring.{restored, CanRestore}
use Rattle.problem_commits.proofs.entries.restore.Given as goal

-- what is left to give back leads to the same
abbrev pub invariant-loop-last : goal.invariant-loop-last
invariant-loop-last l = record {
  same : restored l.left.items l.problem ≡ restored l.fn.replaced.items l.fn.problem;
  can : CanRestore l.left.items l.problem;
}

abbrev pub decreases-loop-last : goal.decreases-loop-last
decreases-loop-last l = length l.left.items
