use Rattle.std.proofs.Common.{◌≡◌, ◌++◌, length, map}
use Rattle.std.specs.Prelude.{IfSome}
use Rattle.std.specs.List.{filter}
use Rattle.presolve_model.specs.Enabled.{enabled_on, reading_of}
use Rattle.presolve_model.specs.Scans.{proposal_of}
use Rattle.instances.proofs.scans.visit_each.Given as goal

-- those so far, and those among the instances that are left; the last reading is of the problem
abbrev pub invariant-loop-rest : goal.invariant-loop-rest
invariant-loop-rest l = record {
  found : l.found.items ++ map (proposal_of l.walk.problem.now l.walk.version) (filter (enabled_on l.walk.problem.now) l.rest) ≡ l.fn.found.items ++ map (proposal_of l.walk.problem.now l.walk.version) (filter (enabled_on l.walk.problem.now) l.instances);
  read : IfSome l.last (λ x. x.1 ≡ reading_of l.walk.problem.now x.0);
}

abbrev pub decreases-loop-rest : goal.decreases-loop-rest
decreases-loop-rest l = length l.rest
