use Rattle.std.proofs.Common.{◌≡◌, length}
use Rattle.lp_model.specs.Vectors.{vector_of}
use Rattle.lp_rays.specs.RayData.{weights_of}
use Rattle.ray_lift.proofs.Shiftings.{Shifting}
use Rattle.ray_lift.proofs.shifting.shift_columns.Given as goal

-- the columns before the rest have shifted
abbrev pub invariant-loop-term : goal.invariant-loop-term
invariant-loop-term l = Shifting (length l.ray.lower_bounds) (length l.ray.upper_bounds) (length l.fn.ray.lower_bounds) l.shift l.out l.entries l.rest l.taken (weights_of l.fn.ray) (vector_of l.ray.lower_bounds) (vector_of l.ray.upper_bounds)
    × (l.ray.lower_sides ≡ l.fn.ray.lower_sides) × (l.ray.upper_sides ≡ l.fn.ray.upper_sides)

abbrev pub decreases-loop-term : goal.decreases-loop-term
decreases-loop-term l = length l.rest
