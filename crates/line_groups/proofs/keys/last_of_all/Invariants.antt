use Rattle.std.proofs.Common.{◌≡◌, length}
use Rattle.line_groups.specs.Keys.{last_number}
use Rattle.line_groups.proofs.KeyLaws.{last_behind}
use Rattle.line_groups.proofs.keys.last_of_all.Given as goal

-- it is the last of what is left, or else the last so far
abbrev pub invariant-loop-rest : goal.invariant-loop-rest
invariant-loop-rest l = last_behind l.last l.rest ≡ last_number l.terms

abbrev pub decreases-loop-rest : goal.decreases-loop-rest
decreases-loop-rest l = length l.rest
