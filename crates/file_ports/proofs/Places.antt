-- A write at the place of one name: what this name tells, and that the others stay.
use Rattle.std.proofs.Common.{◌≡◌, ◌≢◌, ℕ, List, Some, None, Bool, true, false, cond, refl, sym, ◌∙◌, ap, arith, rules, get_or, length}
use Rattle.std.proofs.Math.ListN.{set}
use Rattle.std.proofs.lemmas.Bool.{false_from_ne_true}
use Rattle.std.proofs.lemmas.List.Folds.{find_at, find-set, find_past}
use Rattle.std.proofs.lemmas.List.Quantifiers.{position-Some}
use Rattle.std.proofs.lemmas.Option.{slice_get_past, slice_get-get_or}
use Rattle.std.proofs.lemmas.Slice.Eq.{bytes_eq-Decides}
use Rattle.std.specs.List.{position_or_len}
use Rattle.std.specs.Prelude.{slice_get, nat_lt}
use Rattle.std.specs.Option.{option_and_then}
use Rattle.std.specs.Str.{bytes_eq}
use Rattle.file_ports.specs.Memory.{Place, place_of, index_of, room_in, room_at}

place_by : (places : List Place) (n : ℕ) (b : Bool) → nat_lt n (length places) ≡ b → slice_get places n ≡ option_and_then (λ i. slice_get places i) (cond b (Some n) None)
place_by places n true e = refl
place_by places n false e = slice_get_past places n (search (arith, rules))

-- the place of a name is the one at its index
pub place_at : (places : List Place) (name : List ℕ) → place_of places name ≡ option_and_then (λ i. slice_get places i) (index_of places name)
place_at places name = find_at (λ (place : Place). bytes_eq place.name name) places
    ∙ place_by places (position_or_len (λ (place : Place). bytes_eq place.name name) places) _ refl

-- a name without an index has no room
pub room_absent : (places : List Place) (name : List ℕ) → index_of places name ≡ None → room_in places name ≡ None
room_absent places name at = ap room_at (place_at places name ∙ ap (option_and_then (λ i. slice_get places i)) at)

pub named_at : (places : List Place) (name : List ℕ) (i : ℕ) (d : Place) → index_of places name ≡ Some i → ((get_or places i d).name ≡ name) × (place_of places name ≡ Some (get_or places i d))
named_at places name i d at =
    let found = position-Some (λ (place : Place). bytes_eq place.name name) places i d at in
    ((bytes_eq-Decides _ _).0 found.1, place_at places name ∙ ap (option_and_then (λ i. slice_get places i)) at ∙ slice_get-get_or places i d found.0)

is_other : (held name : List ℕ) → held ≢ name → bytes_eq held name ≡ false
is_other held name ne = false_from_ne_true (bytes_eq held name) (λ e. ne ((bytes_eq-Decides held name).0 e))

is_index : (b : Bool) (n i : ℕ) → cond b (Some n) None ≡ Some i → i ≡ n
is_index true n i e = cc
is_index false n i e = cc

-- it tells what was written
pub placed : (places : List Place) (name : List ℕ) (i : ℕ) (v d : Place) → index_of places name ≡ Some i → v.name ≡ (get_or places i d).name → place_of (set places i v) name ≡ Some v
placed places name i v d at same =
    let is : (get_or places i d).name ≡ name = (named_at places name i d at).0 in
    let p : Place → Bool = λ place. bytes_eq place.name name in
    find-set p places i v (is_index _ _ i at) (position-Some p places i d at).0 ((bytes_eq-Decides v.name name).1 (same ∙ is))

-- the others tell what they told
pub kept : (places : List Place) (name other : List ℕ) (i : ℕ) (v d : Place) → index_of places name ≡ Some i → v.name ≡ (get_or places i d).name
    → other ≢ name → place_of (set places i v) other ≡ place_of places other
kept places name other i v d at same ne =
    let is : (get_or places i d).name ≡ name = (named_at places name i d at).0 in
    find_past (λ (place : Place). bytes_eq place.name other) places i v d
    (is_other _ _ (λ e. ne (sym e ∙ is))) (is_other _ _ (λ e. ne (sym e ∙ same ∙ is)))

-- no room changes
rooms_by : (places : List Place) (name other : List ℕ) (i : ℕ) (v d : Place) → index_of places name ≡ Some i → v.name ≡ (get_or places i d).name
    → v.room ≡ (get_or places i d).room → (b : Bool) → bytes_eq other name ≡ b → room_in (set places i v) other ≡ room_in places other
rooms_by places name other i v d at same room true e =
    rw ((bytes_eq-Decides other name).0 e, placed places name i v d at same, (named_at places name i d at).1) room
rooms_by places name other i v d at same room false e =
    ap room_at (kept places name other i v d at same (λ is. let t : bytes_eq other name ≡ true = (bytes_eq-Decides other name).1 is in cc))

pub rooms_kept : (places : List Place) (name other : List ℕ) (i : ℕ) (v d : Place) → index_of places name ≡ Some i → v.name ≡ (get_or places i d).name
    → v.room ≡ (get_or places i d).room → room_in (set places i v) other ≡ room_in places other
rooms_kept places name other i v d at same room = rooms_by places name other i v d at same room (bytes_eq other name) refl

pub room_at_index : (places : List Place) (name : List ℕ) (i : ℕ) (d : Place) → index_of places name ≡ Some i → room_in places name ≡ (get_or places i d).room
room_at_index places name i d at = ap room_at (named_at places name i d at).1
