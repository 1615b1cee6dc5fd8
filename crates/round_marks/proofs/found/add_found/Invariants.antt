use Rattle.std.proofs.Common.{◌≡◌, ◌++◌, length}
use Rattle.std.specs.List.{filter}
use Rattle.presolve_model.specs.Enabled.{enabled_on}
use Rattle.presolve_model.specs.Tallies.{open_on}
use Rattle.presolve_model.specs.Scans.{instances_at}
use Rattle.round_marks.proofs.found.add_found.Given as goal

-- those so far, and those at the ids that are left
abbrev pub invariant-loop-rest : goal.invariant-loop-rest
invariant-loop-rest l = l.found.items ++ filter (enabled_on l.problem) (instances_at (open_on l.tally) l.problem l.rule l.rest) ≡ l.initial.found.items ++ filter (enabled_on l.problem) (instances_at (open_on l.tally) l.problem l.rule l.ids)

abbrev pub decreases-loop-rest : goal.decreases-loop-rest
decreases-loop-rest l = length l.rest
