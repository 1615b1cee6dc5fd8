use Rattle.lp_model.specs.Meaning.{meaning}
use Rattle.lp_rays.specs.RayData.{weights_of}
use Rattle.ray_check.proofs.Worthing.{Worthing}
use Rattle.ray_check.proofs.worths.side_worths.Given as goal

-- the sums of the rows so far
abbrev pub invariant-loop-i : goal.invariant-loop-i
invariant-loop-i l = record {
  lower : Worthing l.i (meaning l.program).lower_side (weights_of l.ray).s l.lower;
  upper : Worthing l.i (meaning l.program).upper_side (weights_of l.ray).t l.upper;
}
