-- Which names a table has.
use Rattle.std.proofs.Common.{◌≡◌, ℕ, ◌+◌, ◌<◌, List, [], ◌∷◌, ◌++◌, length, get_or, take, Bool, true, false, cond, Option, Some, refl, sym, ap, ap₂, ◌∙◌}
use Rattle.std.specs.Prelude.{◌||◌, is_some}
use Rattle.std.specs.Str.{bytes_eq}
use Rattle.std.specs.List.{position_from, list_any}
use Rattle.std.proofs.Math.Bool.{or-false}
use Rattle.std.proofs.lemmas.List.{take_more}
use Rattle.std.proofs.lemmas.List.Folds.{list_any-append}
use Rattle.std.proofs.lemmas.Iterator.Adapters.{position_from-zero}
use Rattle.std.proofs.lemmas.Slice.Eq.{bytes_eq-Decides}
use Rattle.names.specs.Names.{place, IsTaken}
use Rattle.names.specs.declared.Named.{Named}
use Rattle.names.specs.declared.Named.TheVariants.{Fresh, Known}
use Rattle.mps_profile.specs.Texts.{Text}
use Rattle.point_text.specs.Holding.{IsTableOf}

some_cond : (b : Bool) (i : ℕ) (o : Option ℕ) → is_some (cond b (Some i) o) ≡ (b || is_some o)
some_cond true i o = refl
some_cond false i o = refl

from_any : (p : Text → Bool) (i : ℕ) (names : List Text) → is_some (position_from p i names) ≡ list_any p names
from_any p i [] = refl
from_any p i (name ∷ names) = some_cond (p name) i (position_from p (i + 1) names) ∙ ap (λ b. p name || b) (from_any p (i + 1) names)

-- a name has a place where one of the names is it
pub has_place : (name : Text) (names : List Text) → is_some (place name names) ≡ list_any (bytes_eq name) names
has_place name names = ap is_some (position_from-zero (bytes_eq name) names) ∙ from_any (bytes_eq name) 0 names

-- one more name
pub has_more : (q name : Text) (names : List Text) → is_some (place q (names ++ name ∷ [])) ≡ (is_some (place q names) || bytes_eq q name)
has_more q name names =
    has_place q (names ++ name ∷ []) ∙ list_any-append (bytes_eq q) names (name ∷ [])
    ∙ ap₂ (λ (a b : Bool). a || b) (sym (has_place q names)) (or-false (bytes_eq q name))

or_known : (a b : Bool) → (b ≡ true → a ≡ true) → a ≡ (a || b)
or_known true b known = refl
or_known false true known = known refl
or_known false false known = refl

-- what a name that is taken in changes
taken : (named : Named) (name : Text) (old new : List Text) → IsTaken named name old new → (q : Text) → is_some (place q new) ≡ (is_some (place q old) || bytes_eq q name)
taken (Fresh id) name old new is q = ap (λ names. is_some (place q names)) is.2 ∙ has_more q name old
taken (Known id) name old new is q =
    ap (λ names. is_some (place q names)) is.1
    ∙ or_known (is_some (place q old)) (bytes_eq q name) (λ same. ap (λ n. is_some (place n old)) ((bytes_eq-Decides q name).0 same) ∙ ap is_some is.0)

-- one more name of those that the table is to have
pub one_more : (names old new : List Text) (name : Text) (id : ℕ) (named : Named) → IsTableOf (take id names) old → id < length names → name ≡ get_or names id []
    → IsTaken named name old new → IsTableOf (take (id + 1) names) new
one_more names old new name id named has within is took q =
    taken named name old new took q
    ∙ ap₂ (λ (a : Bool) (n : Text). a || bytes_eq q n) (has q) is
    ∙ sym (has_more q (get_or names id []) (take id names)) ∙ ap (λ n. is_some (place q n)) (sym (take_more names id [] within))
