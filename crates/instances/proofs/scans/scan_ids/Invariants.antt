use Rattle.std.proofs.Common.{◌≡◌, ◌++◌, length}
use Rattle.presolve_model.specs.Scans.{found_at}
use Rattle.presolve_model.specs.Tallies.{open_on}
use Rattle.instances.proofs.scans.scan_ids.Given as goal

-- those so far, and those at the ids that are left
abbrev pub invariant-loop-rest : goal.invariant-loop-rest
invariant-loop-rest l = l.found.items ++ found_at (open_on l.walk.tally.now) l.walk.problem.now l.walk.version l.rule l.rest ≡ found_at (open_on l.walk.tally.now) l.walk.problem.now l.walk.version l.rule l.ids

abbrev pub decreases-loop-rest : goal.decreases-loop-rest
decreases-loop-rest l = length l.rest
