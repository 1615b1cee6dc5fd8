use Rattle.std.proofs.Common.{◌≡◌, length}
use Rattle.lp_model.specs.Vectors.{vector_of}
use Rattle.ray_starts.specs.EndWeights.{lower_weight, upper_weight}
use Rattle.ray_starts.proofs.Placing.{Placed}
use Rattle.ray_starts.proofs.columns.weigh_columns.Given as goal

-- the columns before the rest have their weights
abbrev pub invariant-loop-term : goal.invariant-loop-term
invariant-loop-term l = record {
  lower_size : length l.ray.lower_bounds ≡ length l.fn.ray.lower_bounds;
  upper_size : length l.ray.upper_bounds ≡ length l.fn.ray.lower_bounds;
  lower : Placed (length l.fn.ray.lower_bounds) (lower_weight l.extreme) l.entries l.rest (vector_of l.ray.lower_bounds);
  upper : Placed (length l.fn.ray.lower_bounds) (upper_weight l.extreme) l.entries l.rest (vector_of l.ray.upper_bounds);
  lower_sides : l.ray.lower_sides ≡ l.fn.ray.lower_sides;
  upper_sides : l.ray.upper_sides ≡ l.fn.ray.upper_sides;
}

abbrev pub decreases-loop-term : goal.decreases-loop-term
decreases-loop-term l = length l.rest
