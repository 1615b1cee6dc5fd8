use Rattle.std.proofs.Common.{◌≡◌, length}
use Rattle.problem_model.specs.Matrices.{live_only}
use Rattle.line_groups.specs.Keys.{last_number}
use Rattle.line_groups.proofs.KeyLaws.{last_behind}
use Rattle.line_groups.proofs.keys.last_number.Given as goal

-- it is the last of what is left, or else the last so far
abbrev pub invariant-loop-rest : goal.invariant-loop-rest
invariant-loop-rest l = last_behind l.last (live_only l.others l.rest) ≡ last_number (live_only l.others l.terms)

abbrev pub decreases-loop-rest : goal.decreases-loop-rest
decreases-loop-rest l = length l.rest
