-- Where no name stands twice, each name is found where it stands.
use Rattle.std.proofs.Common.{◌≡◌, ℕ, zero, suc, List, [], ◌∷◌, Some, Bool, true, false, if◌then◌else◌, refl, sym, ◌∙◌, ap, map}
use Rattle.std.proofs.lemmas.Bool.{false_from_ne_true, or_parts}
use Rattle.std.proofs.lemmas.Slice.Eq.{bytes_eq-Decides}
use Rattle.std.specs.Prelude.{slice_get, string_bytes}
use Rattle.std.specs.Str.{bytes_eq}
use Rattle.file_ports.specs.declared.entry.Held.{Held}
use Rattle.file_ports.specs.Held.{all_differ, has_name_in, place_of_held, IsAsHeld}
use Rattle.file_ports.specs.Memory.{Place}

no_such_at : (held : List Held) (k : ℕ) (one : Held) (name : List ℕ) → has_name_in held name ≡ false → slice_get held k ≡ Some one → bytes_eq (string_bytes one.name) name ≡ false
no_such_at [] k one name none at = cc
no_such_at (h ∷ hs) zero one name none at =
    let is : h ≡ one = cc in
    ap (λ (x : Held). bytes_eq (string_bytes x.name) name) (sym is) ∙ (or_parts _ _ none).0
no_such_at (h ∷ hs) (suc k) one name none at = no_such_at hs k one name (or_parts _ _ none).1 at

both_parts : (b x : Bool) → (if b then false else x) ≡ true → (b ≡ false) × (x ≡ true)
both_parts true x e = cc
both_parts false x e = (refl, e)

found_first : (held : List Held) → all_differ held ≡ true → IsAsHeld held (map place_of_held held)
found_first [] differ k one at = cc
found_first (h ∷ hs) differ zero one at =
    let is : h ≡ one = cc in
    let same : bytes_eq (string_bytes h.name) (string_bytes one.name) ≡ true = (bytes_eq-Decides _ _).1 (ap (λ (x : Held). string_bytes x.name) is) in
    rw same (ap (λ (x : Held). Some (place_of_held x)) is)
found_first (h ∷ hs) differ (suc k) one at =
    let parts = both_parts _ _ differ in
    let far : bytes_eq (string_bytes one.name) (string_bytes h.name) ≡ false = no_such_at hs k one (string_bytes h.name) parts.0 at in
    let other : bytes_eq (string_bytes h.name) (string_bytes one.name) ≡ false = false_from_ne_true _ (λ e.
    let t : bytes_eq (string_bytes one.name) (string_bytes h.name) ≡ true = (bytes_eq-Decides _ _).1 (sym ((bytes_eq-Decides (string_bytes h.name) (string_bytes one.name)).0 e)) in cc) in
    rw other (found_first hs parts.1 k one at)

pub as_held : (held : List Held) (places : List Place) → all_differ held ≡ true → places ≡ map place_of_held held → IsAsHeld held places
as_held held places differ is = rw is (found_first held differ)
