use Rattle.std.proofs.Common.{length}
use Rattle.problem_commits.proofs.GivingBack.{Taking}
use Rattle.problem_commits.proofs.entries.take_run.Given as goal

-- the terms taken are a run, behind which the edits are left
abbrev pub invariant-loop-term : goal.invariant-loop-term
invariant-loop-term l = Taking l.column l.fn.terms.items l.edits l.terms.items l.last l.rest

abbrev pub decreases-loop-term : goal.decreases-loop-term
decreases-loop-term l = length l.rest
