use Rattle.std.proofs.Common.{length}
use Rattle.problem_commits.proofs.GivingBack.{Standing}
use Rattle.problem_commits.proofs.entries.set_first.Given as goal

-- what is to be made leads to the same, and may be made; what was set can be given back
abbrev pub invariant-loop-entry : goal.invariant-loop-entry
invariant-loop-entry l = Standing l.fn.problem l.edits l.replaced.items l.problem l.rest

abbrev pub decreases-loop-entry : goal.decreases-loop-entry
decreases-loop-entry l = length l.rest
