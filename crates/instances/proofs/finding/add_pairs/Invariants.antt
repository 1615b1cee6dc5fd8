use Rattle.std.proofs.Common.{◌≡◌, ◌++◌, length, map}
use Rattle.presolve_model.specs.declared.instance.Instance.TheVariants as at
use Rattle.presolve_model.specs.declared.instance.Reduction.TheVariants.{DominatedColumn}
use Rattle.instances.proofs.finding.add_pairs.Given as goal

-- those so far, and those of the pairs that are left
abbrev pub invariant-loop-rest : goal.invariant-loop-rest
invariant-loop-rest l = l.found.items ++ map (λ x. at.Reduction (DominatedColumn l.row x.0 x.1)) l.rest ≡ l.fn.found.items ++ map (λ x. at.Reduction (DominatedColumn l.row x.0 x.1)) l.pairs

abbrev pub decreases-loop-rest : goal.decreases-loop-rest
decreases-loop-rest l = length l.rest
