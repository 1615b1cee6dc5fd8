-- Places of names in lists in which no name stands twice.
use Rattle.std.proofs.Common.{◌≡◌, ℕ, ◌+◌, ◌<◌, List, [], ◌∷◌, ◌++◌, length, length-append, get_or, Bool, true, false, cond, Option, Some, None, refl, sym, ap, ap₂, ◌∙◌, arith, below_more, ◌||◌, is_some, unwrap_or}
use Rattle.std.specs.Prelude.{position}
use Rattle.std.specs.List.{position_from, list_any}
use Rattle.std.specs.Str.{bytes_eq}
use Rattle.std.proofs.lemmas.List.{get_or_append_left, get_or_push, get_or_default}
use Rattle.std.proofs.lemmas.List.Quantifiers.{position-Some}
use Rattle.std.proofs.lemmas.Iterator.Adapters.{position_from-zero}
use Rattle.std.proofs.lemmas.Slice.Eq.{bytes_eq-Decides}
use Rattle.names.specs.Names.{place}
use Rattle.lp_model.specs.Names.{Differ}
use Rattle.mps_profile.specs.Texts.{Text}
use Rattle.mps_profile.specs.Columns.{joined}
use Rattle.mps_laws.specs.Names.{IsNumbered}

abbrev or_else : Option ℕ → Option ℕ → Option ℕ
or_else (Some k) other = Some k
or_else None other = other

or_cond : (b : Bool) (i : ℕ) (o p : Option ℕ) → cond b (Some i) (or_else o p) ≡ or_else (cond b (Some i) o) p
or_cond true i o p = refl
or_cond false i o p = refl

from_push : (p : Text → Bool) (i : ℕ) (xs : List Text) (y : Text) → position_from p i (xs ++ y ∷ []) ≡ or_else (position_from p i xs) (cond (p y) (Some (i + length xs)) None)
from_push p i [] y = ap (λ n. cond (p y) (Some n) None) (omega arith)
from_push p i (x ∷ xs) y =
    ap (cond (p x) (Some i)) (from_push p (i + 1) xs y) ∙ or_cond (p x) i _ _
    ∙ ap (λ n. or_else (cond (p x) (Some i) (position_from p (i + 1) xs)) (cond (p y) (Some n) None)) (omega arith)

-- one more name
pub place_push : (name last : Text) (names : List Text) → place name (names ++ last ∷ []) ≡ or_else (place name names) (cond (bytes_eq name last) (Some (length names)) None)
place_push name last names =
    position_from-zero (bytes_eq name) (names ++ last ∷ []) ∙ from_push (bytes_eq name) 0 names last
    ∙ ap₂ (λ (o : Option ℕ) (n : ℕ). or_else o (cond (bytes_eq name last) (Some n) None)) (sym (position_from-zero (bytes_eq name) names)) (omega arith)

-- the name at its place
pub place_within : (name : Text) (names : List Text) (k : ℕ) → place name names ≡ Some k → (k < length names) × (name ≡ get_or names k [])
place_within name names k is =
    let p = position-Some (bytes_eq name) names k [] is in
    (p.0, (bytes_eq-Decides name (get_or names k [])).0 p.1)

same_name : (name : Text) → bytes_eq name name ≡ true
same_name name = (bytes_eq-Decides name name).1 refl

pub at_last : (names : List Text) (name : Text) → get_or (names ++ name ∷ []) (length names) [] ≡ name
at_last names name = get_or_push names name [] (length names) refl

pub numbered_none : IsNumbered []
numbered_none i lt = absurd (omega (arith, lt))

-- one more name that is not among them
pub numbered_push : (names : List Text) (name : Text) → IsNumbered names → place name names ≡ None → IsNumbered (names ++ name ∷ [])
numbered_push names name each new i lt =
    below_more (λ k. place (get_or (names ++ name ∷ []) k []) (names ++ name ∷ []) ≡ Some k) (length names) old last i (omega (arith, lt, length-append names (name ∷ [])))
  where
    old : (k : ℕ) → k < length names → place (get_or (names ++ name ∷ []) k []) (names ++ name ∷ []) ≡ Some k
    old k h = ap (λ x. place x (names ++ name ∷ [])) (get_or_append_left names (name ∷ []) [] k h) ∙ place_push (get_or names k []) name names
        ∙ ap (λ o. or_else o (cond (bytes_eq (get_or names k []) name) (Some (length names)) None)) (each k h)

    last : place (get_or (names ++ name ∷ []) (length names) []) (names ++ name ∷ []) ≡ Some (length names)
    last = ap (λ x. place x (names ++ name ∷ [])) (at_last names name) ∙ place_push name name names
        ∙ ap₂ (λ (o : Option ℕ) (b : Bool). or_else o (cond b (Some (length names)) None)) new (same_name name)

-- a name that joins them
pub numbered_joined : (name : Text) (names : List Text) → IsNumbered names → IsNumbered (joined name names)
numbered_joined name names each = by_place (place name names) refl
  where
    by_place : (o : Option ℕ) → place name names ≡ o → IsNumbered (cond (is_some o) names (names ++ name ∷ []))
    by_place (Some k) is = each
    by_place None is = numbered_push names name each is

-- a name stands at one place alone
pub one_place : (names : List Text) (i k : ℕ) → IsNumbered names → i < length names → k < length names → get_or names i [] ≡ get_or names k [] → i ≡ k
one_place names i k each l m same = ap (λ o. unwrap_or o 0) (sym (each i l) ∙ ap (λ x. place x names) same ∙ each k m)

pub differ : (names : List Text) → IsNumbered names → Differ names
differ names each i k d lt below same = absurd (omega (arith, lt, one_place names i k each within below known))
  where
    within : i < length names
    within = omega (arith, lt, below)

    known : get_or names i [] ≡ get_or names k []
    known = get_or_default names i [] d within ∙ same ∙ get_or_default names k d [] below

from_any : {X : Type 0} (p : X → Bool) (i : ℕ) (xs : List X) → list_any p xs ≡ true → (k : ℕ) × (position_from p i xs ≡ Some k)
from_any p i [] is = cc
from_any {X} p i (x ∷ xs) is = by_test (p x) is (from_any p (i + 1) xs)
  where
    by_test : (b : Bool) → (b || list_any p xs) ≡ true → (list_any p xs ≡ true → (k : ℕ) × (position_from p (i + 1) xs ≡ Some k))
        → (k : ℕ) × (cond b (Some i) (position_from p (i + 1) xs) ≡ Some k)
    by_test true some later = (i, refl)
    by_test false some later = later some

-- what passes somewhere has a first place
pub found : {X : Type 0} (p : X → Bool) (xs : List X) → list_any p xs ≡ true → (k : ℕ) × (position p xs ≡ Some k)
found p xs is = let at = from_any p 0 xs is in (at.0, position_from-zero p xs ∙ at.1)
