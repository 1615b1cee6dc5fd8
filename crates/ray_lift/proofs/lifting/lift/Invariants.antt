use Rattle.std.proofs.Common.{◌≡◌, ◌≤◌, length, drop}
use Rattle.lp_rays.specs.RayData.{IsSized, weights_of}
use Rattle.ray_steps.specs.StepBack.{lift_ray}
use Rattle.ray_steps.specs.RayRoom.{LiftFits}
use Rattle.ray_lift.proofs.lifting.lift.Given as goal

abbrev pub invariant-loop-left : goal.invariant-loop-left
invariant-loop-left l = record {
  within : l.left ≤ length l.steps;
  sized : IsSized (length l.fn.ray.lower_sides) (length l.fn.ray.lower_bounds) l.ray;
  lifted : weights_of l.ray ≡ lift_ray (drop l.left l.steps) (weights_of l.fn.ray);
  fits : LiftFits (drop l.left l.steps) (weights_of l.fn.ray);
}

abbrev pub decreases-loop-left : goal.decreases-loop-left
decreases-loop-left l = l.left
