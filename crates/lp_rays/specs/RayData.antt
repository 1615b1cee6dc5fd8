-- The numbers of a ray.
use Rattle.std.specs.Prelude.{◌≡◌, ℕ, List, length}
use Rattle.fractions.specs.Number.{Number}
use Rattle.lp_model.specs.Vectors.{vector_of}
use Rattle.lp_rays.specs.Ray.{Weights}

-- the weights of the lower and the upper sides by row, and of the lower and the upper bounds by column
pub record RayData : Type 0 where
  pub lower_sides : List Number
  pub upper_sides : List Number
  pub lower_bounds : List Number
  pub upper_bounds : List Number

abbrev pub weights_of : RayData → Weights
weights_of r = record { s = vector_of r.lower_sides; t = vector_of r.upper_sides; p = vector_of r.lower_bounds; q = vector_of r.upper_bounds }

-- one for each of m rows and of n columns
pub record IsSized (m n : ℕ) (r : RayData) : Type 0 where
  pub lower_sides : length r.lower_sides ≡ m
  pub upper_sides : length r.upper_sides ≡ m
  pub lower_bounds : length r.lower_bounds ≡ n
  pub upper_bounds : length r.upper_bounds ≡ n
