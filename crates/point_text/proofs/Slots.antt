-- What is held for a name after a number was put at a place.
use Rattle.std.proofs.Common.{◌≡◌, ℕ, ◌<◌, List, [], length, get_or, Bool, true, false, cond, Option, Some, None, refl, sym, ap, ◌∙◌}
use Rattle.std.proofs.Math.ListN.{set}
use Rattle.std.specs.Prelude.{option_map}
use Rattle.std.specs.Str.{bytes_eq}
use Rattle.std.proofs.lemmas.List.{get_or-set_same, get_or-set_other}
use Rattle.std.proofs.lemmas.List.Quantifiers.{position-Some}
use Rattle.std.proofs.lemmas.Slice.Eq.{bytes_eq-Decides}
use Rattle.fractions.specs.Number.{Number}
use Rattle.names.specs.Names.{place}
use Rattle.mps_profile.specs.Texts.{Text}
use Rattle.point_text.specs.Holding.{number_at}

-- a name is that at its place
name_at : (name : Text) (table : List Text) (k : ℕ) → place name table ≡ Some k → name ≡ get_or table k []
name_at name table k is =
    let p = position-Some (bytes_eq name) table k [] is in
    (bytes_eq-Decides name (get_or table k [])).0 p.1

same_place : (table : List Text) (name other : Text) (id k : ℕ) → place name table ≡ Some id → place other table ≡ Some k → k ≡ id → name ≡ other
same_place table name other id k here there same =
    name_at name table id here ∙ ap (λ n. get_or table n []) (sym same) ∙ sym (name_at other table k there)

other_place : {A : Type 0} (table : List Text) (numbers : List (Option A)) (name other : Text) (id : ℕ) (v : Option A) (o : Option ℕ) → place name table ≡ Some id
    → bytes_eq name other ≡ false → place other table ≡ o → number_at (set numbers id v) o ≡ number_at numbers o
other_place table numbers name other id v None here differ there = refl
other_place table numbers name other id v (Some k) here differ there =
    get_or-set_other numbers id k v None (λ same. let equal : bytes_eq name other ≡ true = (bytes_eq-Decides name other).1 (same_place table name other id k here there same) in cc)

by_test : {A : Type 0} (number : A → Number) (table : List Text) (numbers : List (Option A)) (name other : Text) (id : ℕ) (v : A) (b : Bool) → place name table ≡ Some id → id < length numbers
    → bytes_eq name other ≡ b → option_map number (number_at (set numbers id (Some v)) (place other table)) ≡ cond b (Some (number v)) (option_map number (number_at numbers (place other table)))
by_test number table numbers name other id v true here within same =
    let equal : name ≡ other = (bytes_eq-Decides name other).0 same in
    ap (λ o. option_map number (number_at (set numbers id (Some v)) o)) (sym (ap (λ n. place n table) equal) ∙ here) ∙ ap (option_map number) (get_or-set_same numbers id (Some v) None within)
by_test number table numbers name other id v false here within differ = ap (option_map number) (other_place table numbers name other id (Some v) (place other table) here differ refl)

pub put_slot : {A : Type 0} (number : A → Number) (table : List Text) (numbers : List (Option A)) (name other : Text) (id : ℕ) (v : A) → place name table ≡ Some id → id < length numbers
    → option_map number (number_at (set numbers id (Some v)) (place other table)) ≡ cond (bytes_eq name other) (Some (number v)) (option_map number (number_at numbers (place other table)))
put_slot number table numbers name other id v here within = by_test number table numbers name other id v (bytes_eq name other) here within refl
