use Rattle.std.proofs.Common.{length}
use Rattle.lp_rays.specs.RayData.{weights_of}
use Rattle.lp_rays.proofs.Netting.{Netted}
use Rattle.lp_rays.proofs.nets.net.Given as goal

abbrev pub invariant-loop-entry : goal.invariant-loop-entry
invariant-loop-entry l = Netted (length l.ray.lower_sides) l.entries (weights_of l.ray) l.sum l.rest

abbrev pub decreases-loop-entry : goal.decreases-loop-entry
decreases-loop-entry l = length l.rest
