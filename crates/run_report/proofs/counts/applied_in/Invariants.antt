use Rattle.std.proofs.Common.{◌≡◌, ◌++◌, map, length}
use Rattle.presolve_model.specs.declared.instance.Instance.TheVariants as at
use Rattle.run_report.proofs.counts.applied_in.Given as goal

-- those so far, and those that are left
abbrev pub invariant-loop-rest : goal.invariant-loop-rest
invariant-loop-rest l = l.found.items ++ map at.Reduction l.rest ≡ map at.Reduction l.history

abbrev pub decreases-loop-rest : goal.decreases-loop-rest
decreases-loop-rest l = length l.rest
