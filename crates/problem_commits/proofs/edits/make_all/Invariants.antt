use Rattle.std.proofs.Common.{◌≡◌, length}
use Rattle.problem_model.specs.Allowed.{AreAllowed, NoEntries}
use Rattle.problem_model.specs.Applied.{applied}
use Rattle.problem_model.specs.Offsets.{OffsetFits}
use Rattle.problem_commits.proofs.edits.make_all.Given as goal

-- what is to be made leads to the same, and may be made
abbrev pub invariant-loop-rest : goal.invariant-loop-rest
invariant-loop-rest l = (applied l.problem l.rest ≡ applied l.fn.problem l.edits) × AreAllowed l.problem l.rest × OffsetFits l.problem.offset l.rest × NoEntries l.rest

abbrev pub decreases-loop-rest : goal.decreases-loop-rest
decreases-loop-rest l = length l.rest
