-- Names, each at its own place.
use Rattle.std.specs.Prelude.{◌≡◌, ◌<◌, ◌++◌, ℕ, zero, suc, List, [], ◌∷◌, length, Some, if◌then◌else◌}
use Rattle.names.specs.Names.{place}
use Rattle.mps_profile.specs.Texts.{Text, field}
use Rattle.mps_profile.specs.Cards.{Card}
use Rattle.mps_profile.specs.Rows.{row_names, row_kind, is_free}

-- each name's place is its own number
abbrev pub IsNumbered : List Text → Type 0
IsNumbered names = (i : ℕ) → i < length names → place (field names i) names ≡ Some i

-- the names of the first n rows, without those of N rows
abbrev pub kept_names : List Card → ℕ → List Text
kept_names cards zero = []
kept_names cards (suc i) = kept_names cards i ++ (if is_free (row_kind cards i) then [] else field (row_names cards) i ∷ [])
