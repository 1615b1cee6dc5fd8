use Rattle.std.proofs.Common.{◌≡◌, length}
use Rattle.ray_text.specs.RayLines.{is_ray_text}
use Rattle.ray_text.proofs.starting.is_ray.Given as goal

-- the lines that were left out are blank
abbrev pub invariant-loop-rest : goal.invariant-loop-rest
invariant-loop-rest l = is_ray_text l.rest ≡ is_ray_text l.fn.bytes

abbrev pub decreases-loop-rest : goal.decreases-loop-rest
decreases-loop-rest l = length l.rest
