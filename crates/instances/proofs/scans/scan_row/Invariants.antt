use Rattle.std.proofs.Common.{◌≡◌}
use Rattle.std.specs.List.{range_with_len}
use Rattle.presolve_model.specs.Scans.{found_at}
use Rattle.presolve_model.specs.Tallies.{open_on}
use Rattle.instances.proofs.scans.scan_row.Given as goal

-- the enabled ones so far
abbrev pub invariant-loop-passed : goal.invariant-loop-passed
invariant-loop-passed l = l.found.items ≡ found_at (open_on l.walk.tally.now) l.walk.problem.now l.walk.version l.rule (range_with_len l.first l.passed)
