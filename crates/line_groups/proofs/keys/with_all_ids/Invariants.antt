use Rattle.std.proofs.Common.{◌≡◌, length}
use Rattle.line_groups.specs.Keys.{with_ids}
use Rattle.line_groups.proofs.keys.with_all_ids.Given as goal

-- what is left comes into the key
abbrev pub invariant-loop-rest : goal.invariant-loop-rest
invariant-loop-rest l = with_ids l.made l.rest ≡ with_ids l.key l.terms

abbrev pub decreases-loop-rest : goal.decreases-loop-rest
decreases-loop-rest l = length l.rest
