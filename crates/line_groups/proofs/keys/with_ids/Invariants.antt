use Rattle.std.proofs.Common.{◌≡◌, length}
use Rattle.problem_model.specs.Matrices.{live_only}
use Rattle.line_groups.specs.Keys.{with_ids}
use Rattle.line_groups.proofs.keys.with_ids.Given as goal

-- what is left comes into the key
abbrev pub invariant-loop-rest : goal.invariant-loop-rest
invariant-loop-rest l = with_ids l.made (live_only l.others l.rest) ≡ with_ids l.key (live_only l.others l.terms)

abbrev pub decreases-loop-rest : goal.decreases-loop-rest
decreases-loop-rest l = length l.rest
