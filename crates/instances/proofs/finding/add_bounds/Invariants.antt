use Rattle.std.proofs.Common.{◌≡◌, ◌++◌, length, map}
use Rattle.std.specs.List.{filter}
use Rattle.presolve_model.specs.declared.instance.Instance.TheVariants as at
use Rattle.presolve_model.specs.declared.instance.Reduction.TheVariants.{BoundTightening}
use Rattle.presolve_model.specs.Tallies.{open_on}
use Rattle.instances.proofs.finding.add_bounds.Given as goal

-- those so far, and the open ones of the bounds that are left
abbrev pub invariant-loop-rest : goal.invariant-loop-rest
invariant-loop-rest l = l.found.items ++ map (λ x. at.Reduction (BoundTightening l.row x.0 x.1)) (filter (λ x. open_on l.tally x.0 x.1) l.rest)
    ≡ l.fn.found.items ++ map (λ x. at.Reduction (BoundTightening l.row x.0 x.1)) (filter (λ x. open_on l.tally x.0 x.1) l.bounds)

abbrev pub decreases-loop-rest : goal.decreases-loop-rest
decreases-loop-rest l = length l.rest
