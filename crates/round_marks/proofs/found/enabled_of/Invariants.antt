use Rattle.std.proofs.Common.{◌≡◌, ◌++◌, length}
use Rattle.std.specs.List.{filter}
use Rattle.presolve_model.specs.Enabled.{enabled_on}
use Rattle.presolve_model.specs.Tallies.{open_on}
use Rattle.place_laws.specs.Choosing.{instances_of}
use Rattle.round_marks.proofs.found.enabled_of.Given as goal

-- those so far, and those of the rules that are left
abbrev pub invariant-loop-rest : goal.invariant-loop-rest
invariant-loop-rest l = l.found.items ++ filter (enabled_on l.problem) (instances_of (open_on l.tally) l.problem l.ids l.rest) ≡ filter (enabled_on l.problem) (instances_of (open_on l.tally) l.problem l.ids l.rules)

abbrev pub decreases-loop-rest : goal.decreases-loop-rest
decreases-loop-rest l = length l.rest
