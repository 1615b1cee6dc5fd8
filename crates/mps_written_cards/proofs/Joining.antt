-- A name that joins names has a place among them.
use Rattle.std.proofs.Common.{◌≡◌, ℕ, List, [], ◌∷◌, ◌++◌, length, Bool, cond, Option, Some, None, is_some, unwrap_or, refl, sym, ap, ap₂, ◌∙◌}
use Rattle.std.proofs.lemmas.Slice.Eq.{bytes_eq-Decides}
use Rattle.names.specs.Names.{place}
use Rattle.mps_profile.specs.Texts.{Text}
use Rattle.mps_profile.specs.Columns.{joined, column_place}
use Rattle.mps_laws.proofs.Places.{place_push}

abbrev or_else : Option ℕ → Option ℕ → Option ℕ
or_else (Some k) other = Some k
or_else None other = other

pub joined_new : (name : Text) (names : List Text) → place name names ≡ None → joined name names ≡ names ++ name ∷ []
joined_new name names is = ap (λ (o : Option ℕ). cond (is_some o) names (names ++ name ∷ [])) is

pub joined_known : (name : Text) (names : List Text) (k : ℕ) → place name names ≡ Some k → joined name names ≡ names
joined_known name names k is = ap (λ (o : Option ℕ). cond (is_some o) names (names ++ name ∷ [])) is

pub place_last : (name : Text) (names : List Text) → place name names ≡ None → place name (names ++ name ∷ []) ≡ Some (length names)
place_last name names is =
    place_push name name names ∙ ap₂ (λ (o : Option ℕ) (b : Bool). or_else o (cond b (Some (length names)) None)) is ((bytes_eq-Decides name name).1 refl)

-- its place is the one that it was to get
pub place_joined : (name : Text) (names : List Text) → place name (joined name names) ≡ Some (column_place name names)
place_joined name names = by_place (place name names) refl
  where
    by_place : (o : Option ℕ) → place name names ≡ o → place name (joined name names) ≡ Some (column_place name names)
    by_place None is = ap (place name) (joined_new name names is) ∙ place_last name names is ∙ ap (λ (o : Option ℕ). Some (unwrap_or o (length names))) (sym is)
    by_place (Some k) is = ap (place name) (joined_known name names k is) ∙ is ∙ ap (λ (o : Option ℕ). Some (unwrap_or o (length names))) (sym is)

pub column_place_joined : (name : Text) (names : List Text) → column_place name (joined name names) ≡ column_place name names
column_place_joined name names = ap (λ (o : Option ℕ). unwrap_or o (length (joined name names))) (place_joined name names)

pub joined_again : (name : Text) (names : List Text) → joined name (joined name names) ≡ joined name names
joined_again name names = joined_known name (joined name names) (column_place name names) (place_joined name names)
