-- Places of names.
use Rattle.std.proofs.Common.{◌≡◌, ◌<◌, ℕ, List, [], true, Some, sym, ◌∙◌, get_or, length}
use Rattle.std.specs.Str.{bytes_eq}
use Rattle.std.proofs.lemmas.List.Quantifiers.{position-Some}
use Rattle.std.proofs.lemmas.Slice.Eq.{bytes_eq-Decides}
use Rattle.names.specs.Names.{place}

-- a name's place is one of the names'
pub within : (name : List ℕ) (names : List (List ℕ)) (k : ℕ) → place name names ≡ Some k → k < length names
within name names k here = (position-Some (bytes_eq name) names k [] here).0

found : (name : List ℕ) (names : List (List ℕ)) (k : ℕ) → place name names ≡ Some k → name ≡ get_or names k []
found name names k here = (bytes_eq-Decides name (get_or names k [])).0 (position-Some (bytes_eq name) names k [] here).1

-- names at the same place are the same
pub same_name : (first second : List ℕ) (names : List (List ℕ)) (k : ℕ) → place first names ≡ Some k → place second names ≡ Some k → bytes_eq first second ≡ true
same_name first second names k here there = (bytes_eq-Decides first second).1 (found first names k here ∙ sym (found second names k there))
