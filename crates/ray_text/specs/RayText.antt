-- The text of a ray.
use Rattle.std.specs.Prelude.{◌&&◌, Bool, ℕ, List, [], ◌∷◌, ◌++◌, All, codes, if◌then◌else◌}
use Rattle.fractions.specs.Number.{Number, zero_ℚ}
use Rattle.fractions.specs.Compare.{eq_ℚ}
use Rattle.fractions.specs.Lowest.{Fits}
use Rattle.number_texts.specs.Written.{written}
use Rattle.mps_profile.specs.Texts.{Text}
use Rattle.lp_rays.specs.RayData.{RayData}

-- whether both weights are 0
abbrev pub are_zero : Number → Number → Bool
are_zero lower upper = eq_ℚ lower zero_ℚ && eq_ℚ upper zero_ℚ

-- a word that says what has the name, the name and the two weights, with a space between, and a line feed
abbrev pub weight_line : Text → Text → Number → Number → List ℕ
weight_line word name lower upper = word ++ 32 ∷ (name ++ 32 ∷ (written lower ++ 32 ∷ (written upper ++ 10 ∷ [])))

-- a line for each name, but where both weights are 0
abbrev pub weight_lines : Text → List Text → List Number → List Number → List ℕ
weight_lines word [] lower upper = []
weight_lines word (name ∷ names) [] upper = []
weight_lines word (name ∷ names) (x ∷ lower) [] = []
weight_lines word (name ∷ names) (x ∷ lower) (y ∷ upper) = (if are_zero x y then [] else weight_line word name x y) ++ weight_lines word names lower upper

-- the line that starts a ray, the rows and the columns
abbrev pub ray_text : List Text → List Text → RayData → List ℕ
ray_text rows columns r = codes "=ray=\n" ++ (weight_lines (codes "row") rows r.lower_sides r.upper_sides ++ weight_lines (codes "column") columns r.lower_bounds r.upper_bounds)

-- each weight has room
pub record HasRoom (r : RayData) : Type 0 where
  pub lower_sides : All Fits r.lower_sides
  pub upper_sides : All Fits r.upper_sides
  pub lower_bounds : All Fits r.lower_bounds
  pub upper_bounds : All Fits r.upper_bounds
