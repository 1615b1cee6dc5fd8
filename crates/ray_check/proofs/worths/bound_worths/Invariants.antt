use Rattle.lp_model.specs.Meaning.{meaning}
use Rattle.lp_rays.specs.RayData.{weights_of}
use Rattle.ray_check.proofs.Worthing.{Worthing}
use Rattle.ray_check.proofs.worths.bound_worths.Given as goal

-- the sums of the columns so far
abbrev pub invariant-loop-j : goal.invariant-loop-j
invariant-loop-j l = record {
  lower : Worthing l.j (meaning l.program).lower_bound (weights_of l.ray).p l.lower;
  upper : Worthing l.j (meaning l.program).upper_bound (weights_of l.ray).q l.upper;
}
