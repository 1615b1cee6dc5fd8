use Rattle.std.proofs.Common.{◌≡◌, ◌++◌, length, map}
use Rattle.std.specs.List.{filter}
use Rattle.presolve_model.specs.Enabled.{enabled_on}
use Rattle.presolve_model.specs.Instances.{beside_at}
use Rattle.instances.proofs.finding.add_beside.Given as goal

-- those so far, and those of the others that are left
abbrev pub invariant-loop-rest : goal.invariant-loop-rest
invariant-loop-rest l = l.found.items ++ filter (enabled_on l.problem) (map (beside_at l.rule l.id) l.rest) ≡ l.fn.found.items ++ filter (enabled_on l.problem) (map (beside_at l.rule l.id) l.others)

abbrev pub decreases-loop-rest : goal.decreases-loop-rest
decreases-loop-rest l = length l.rest
