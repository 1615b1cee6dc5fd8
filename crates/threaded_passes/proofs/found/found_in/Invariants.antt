use Rattle.std.proofs.Common.{◌≡◌, ◌++◌, length}
use Rattle.std.specs.List.{filter}
use Rattle.presolve_model.specs.Enabled.{enabled_on}
use Rattle.presolve_model.specs.Scans.{instances_at}
use Rattle.presolve_model.specs.Tallies.{open_on}
use Rattle.threaded_passes.proofs.found.found_in.Given as goal

-- those so far, and those at the ids that are left
abbrev pub invariant-loop-rest : goal.invariant-loop-rest
invariant-loop-rest l = l.found.items ++ filter (enabled_on l.problem) (instances_at (open_on l.tally) l.problem l.piece.rule l.rest) ≡ filter (enabled_on l.problem) (instances_at (open_on l.tally) l.problem l.piece.rule l.piece.ids)

abbrev pub decreases-loop-rest : goal.decreases-loop-rest
decreases-loop-rest l = length l.rest
