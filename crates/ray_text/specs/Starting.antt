-- Which line starts a ray.
use Rattle.std.specs.Prelude.{◌≡◌, Bool, List, ◌∷◌, Option, Some, None}
use Rattle.ray_text.specs.RayLines.{Line, Silent, opens_first}

-- none of a blank line, else whether the line starts a ray
abbrev pub StartsAs : Line → Option Bool → Type 0
StartsAs line None = line ≡ Silent
StartsAs line (Some starts) = (after : List Line) → opens_first (line ∷ after) ≡ starts
