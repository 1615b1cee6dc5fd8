use Rattle.std.proofs.Common.{◌≡◌, length}
use Rattle.run_report.specs.Story.{is_among}
use Rattle.run_report.proofs.story.is_among.Given as goal

-- it is among all if it is among those that are left
abbrev pub invariant-loop-rest : goal.invariant-loop-rest
invariant-loop-rest l = is_among l.subject l.rest ≡ is_among l.subject l.subjects

abbrev pub decreases-loop-rest : goal.decreases-loop-rest
decreases-loop-rest l = length l.rest
