-- Tables of names that differ.
use Rattle.std.proofs.Common.{◌≡◌, ◌≢◌, ℕ, suc, ◌+◌, ◌<◌, List, [], ◌∷◌, ◌++◌, length, get_or, take, Bool, true, false, cond, Option, Some, refl, sym, ap, ◌∙◌, arith, length-take}
use Rattle.std.specs.Prelude.{All, ◌||◌, is_some}
use Rattle.std.specs.List.{position_from, list_any}
use Rattle.std.proofs.lemmas.Iterator.Adapters.{position_from-zero}
use Rattle.std.specs.Str.{bytes_eq}
use Rattle.std.proofs.lemmas.List.{take_more, get_or-take}
use Rattle.std.proofs.lemmas.List.Quantifiers.{position-Some}
use Rattle.std.proofs.lemmas.Slice.Eq.{bytes_eq-Decides}
use Rattle.lp_model.specs.Names.{Differ}
use Rattle.names.specs.Names.{place, IsTaken}
use Rattle.names.specs.declared.Named.{Named}
use Rattle.names.specs.declared.Named.TheVariants.{Fresh, Known}
use Rattle.mps_profile.specs.Texts.{Text}

pub head_differs : (name : Text) (rest : List Text) → Differ (name ∷ rest) → All (λ other. name ≢ other) rest
head_differs name rest apart k d lt = apart 0 (suc k) d (omega arith) (omega (arith, lt))

pub rest_differs : (name : Text) (rest : List Text) → Differ (name ∷ rest) → Differ rest
rest_differs name rest apart i j d low lt = apart (suc i) (suc j) d (omega (arith, low)) (omega (arith, lt))

-- the name at a place
pub name_at : (name : Text) (names : List Text) (k : ℕ) → place name names ≡ Some k → (k < length names) × (name ≡ get_or names k [])
name_at name names k is = let p = position-Some (bytes_eq name) names k [] is in (p.0, (bytes_eq-Decides name (get_or names k [])).0 p.1)

-- one more name, which none of those before it is
pub one_more : (names old new : List Text) (name : Text) (id : ℕ) (named : Named) → Differ names → old ≡ take id names → id < length names → name ≡ get_or names id []
    → IsTaken named name old new → new ≡ take (id + 1) names
one_more names old new name id (Fresh place) apart has within is took =
    took.2 ∙ ap (λ (ns : List Text). ns ++ name ∷ []) has ∙ ap (λ (n : Text). take id names ++ n ∷ []) is ∙ sym (take_more names id [] within)
one_more names old new name id (Known k) apart has within is took =
    let there = name_at name (take id names) k (ap (place name) (sym has) ∙ took.0) in
    let before : k < id = omega (arith, there.0, length-take id names) in
    absurd (apart k id [] before within (sym (get_or-take id names k [] before) ∙ sym there.1 ∙ is))

some_cond : (b : Bool) (i : ℕ) (o : Option ℕ) → is_some (cond b (Some i) o) ≡ (b || is_some o)
some_cond true i o = refl
some_cond false i o = refl

from_any : (p : Text → Bool) (i : ℕ) (names : List Text) → is_some (position_from p i names) ≡ list_any p names
from_any p i [] = refl
from_any p i (name ∷ names) = some_cond (p name) i (position_from p (i + 1) names) ∙ ap (λ b. p name || b) (from_any p (i + 1) names)

-- a name has a place where one of the names is it
pub has_place : (name : Text) (names : List Text) → is_some (place name names) ≡ list_any (bytes_eq name) names
has_place name names = ap is_some (position_from-zero (bytes_eq name) names) ∙ from_any (bytes_eq name) 0 names
