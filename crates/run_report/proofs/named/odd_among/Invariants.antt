use Rattle.std.proofs.Common.{length}
use Rattle.fractions.specs.Number.{Number}
use Rattle.run_report.specs.Reasons.{IsOfEdits}
use Rattle.run_report.proofs.named.odd_among.Given as goal

-- a number of those that are left is a number of all
abbrev pub invariant-loop-rest : goal.invariant-loop-rest
invariant-loop-rest l = (q : Number) → IsOfEdits l.rest q → IsOfEdits l.edits q

abbrev pub decreases-loop-rest : goal.decreases-loop-rest
decreases-loop-rest l = length l.rest
