use Rattle.std.proofs.Common.{◌≡◌, ◌++◌, length, map}
use Rattle.presolve_model.specs.declared.instance.Instance.TheVariants as at
use Rattle.presolve_model.specs.declared.instance.Reduction.TheVariants.{CoefficientTightening}
use Rattle.instances.proofs.finding.add_coefficients.Given as goal

-- those so far, and those of the columns that are left
abbrev pub invariant-loop-rest : goal.invariant-loop-rest
invariant-loop-rest l = l.found.items ++ map (λ j. at.Reduction (CoefficientTightening l.row j)) l.rest ≡ l.fn.found.items ++ map (λ j. at.Reduction (CoefficientTightening l.row j)) l.columns

abbrev pub decreases-loop-rest : goal.decreases-loop-rest
decreases-loop-rest l = length l.rest
