use Rattle.std.proofs.Common.{length}
use Rattle.lp_rays.specs.RayData.{weights_of}
use Rattle.ray_lift.proofs.Ratios.{Taken}
use Rattle.ray_lift.proofs.forcing.ratios.Given as goal

abbrev pub invariant-loop-term : goal.invariant-loop-term
invariant-loop-term l = Taken l.side (length l.ray.lower_bounds) l.entries (weights_of l.ray) l.sum l.rest

abbrev pub decreases-loop-term : goal.decreases-loop-term
decreases-loop-term l = length l.rest
