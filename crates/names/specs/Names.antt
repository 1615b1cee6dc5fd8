-- Places of names in a list of names.
use Rattle.std.specs.Prelude.{◌≡◌, ◌++◌, ◌∷◌, [], ℕ, List, length, position, Option, Some, None}
use Rattle.std.specs.List.{IsDistinct}
use Rattle.std.specs.Str.{bytes_eq}
use Rattle.names.specs.declared.Named.{Named}
use Rattle.names.specs.declared.Named.TheVariants.{Fresh, Known}

-- the place of a name
abbrev pub place : List ℕ → List (List ℕ) → Option ℕ
place name names = position (bytes_eq name) names

-- no name is there twice
abbrev pub AreDifferent : List (List ℕ) → Type 0
AreDifferent names = IsDistinct bytes_eq names

-- how a name is taken in: at the end if it is new
abbrev pub IsTaken : Named → List ℕ → List (List ℕ) → List (List ℕ) → Type 0
IsTaken (Fresh id) name old new = (place name old ≡ None) × (id ≡ length old) × (new ≡ old ++ name ∷ [])
IsTaken (Known id) name old new = (place name old ≡ Some id) × (new ≡ old)

abbrev pub number_of : Named → ℕ
number_of (Fresh id) = id
number_of (Known id) = id
