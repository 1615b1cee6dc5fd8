use Rattle.std.proofs.Common.{◌≡◌, length}
use Rattle.problem_model.specs.Matrices.{live_only}
use Rattle.line_groups.specs.Keys.{first_number}
use Rattle.line_groups.proofs.keys.first_number.Given as goal

-- it is the first of what is left
abbrev pub invariant-loop-rest : goal.invariant-loop-rest
invariant-loop-rest l = first_number (live_only l.others l.rest) ≡ first_number (live_only l.others l.terms)

abbrev pub decreases-loop-rest : goal.decreases-loop-rest
decreases-loop-rest l = length l.rest
