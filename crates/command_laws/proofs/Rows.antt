-- Rows of which each has a first value that its argument takes.
use Rattle.std.proofs.Common.{◌≡◌, ◌∙◌, ◌++◌, ◌||◌, ◌⊎◌, Bool, cond, true, false, refl, sym, ap, subst, List, [], ◌∷◌, Option, Some, None, inl, inr, true≢false, find, option_and_then, slice_get, bytes_eq}
use Rattle.std.specs.Option.{option_map_or}
use Rattle.std.proofs.lemmas.Option.{none-some, same_Some}
use Rattle.std.proofs.lemmas.Slice.Eq.{bytes_eq-Decides}
use Rattle.clap.specs.Facts.{explicit_source}
use Rattle.clap.specs.Takes.{is_given, value_passes}
use Rattle.clap.specs.Walk.{Row, Rule, Text, arg_by_id, at_row, first_of, more_values, with_values, without}
use Rattle.clap.specs.declared.builder.value_parser.Reading.{Reading}
use Rattle.clap.specs.declared.parser.matches.ValueSource.{ValueSource}

-- P holds of each
abbrev pub Each : {X : Type 0} → (X → Type 0) → List X → Type 0
Each P [] = Unit {0}
Each P (x ∷ xs) = P x × Each P xs

-- the row has a first value, which the argument of its id takes
pub record HasFirst (rules : List Rule) (row : Row) : Type 0 where
  pub first : Text
  pub rule : Rule
  pub read : slice_get row.values 0 ≡ Some first
  pub known : arg_by_id rules row.id ≡ Some rule
  pub passes : value_passes rule first ≡ true

pub each_append : {X : Type 0} (P : X → Type 0) (xs ys : List X) → Each P xs → Each P ys → Each P (xs ++ ys)
each_append P [] ys e f = f
each_append P (x ∷ xs) ys e f = (e.0, each_append P xs ys e.1 f)

pub each_found : {X : Type 0} (P : X → Type 0) (q : X → Bool) (xs : List X) (x : X) → Each P xs → find q xs ≡ Some x → P x × (q x ≡ true)
each_found P q [] x e found = absurd (none-some x found)
each_found P q (y ∷ ys) x e found = go (q y) refl found (each_found P q ys x e.1)
  where
    go : (b : Bool) → q y ≡ b → cond b (Some y) (find q ys) ≡ Some x → (find q ys ≡ Some x → P x × (q x ≡ true)) → P x × (q x ≡ true)
    go true is here later =
        let same : y ≡ x = same_Some y x here in
        (subst P same e.0, ap q (sym same) ∙ is)
    go false is there later = later there

pub either : (a b : Bool) → (a || b) ≡ true → (a ≡ true) ⊎ (b ≡ true)
either true b e = inl refl
either false b e = inr e

at_row_each : (P : Row → Type 0) (id : Text) (change : Row → List Row) (missing rows : List Row) → ((r : Row) → bytes_eq r.id id ≡ true → P r → Each P (change r))
    → Each P missing → Each P rows → Each P (at_row id change missing rows)
at_row_each P id change missing [] changed lacking e = lacking
at_row_each P id change missing (r ∷ rs) changed lacking e = go (bytes_eq r.id id) refl (at_row_each P id change missing rs changed lacking e.1)
  where
    go : (b : Bool) → bytes_eq r.id id ≡ b → Each P (at_row id change missing rs) → Each P (cond b (change r ++ rs) (r ∷ at_row id change missing rs))
    go true is rest = each_append P (change r) rs (changed r is e.0) e.1
    go false is rest = (e.0, rest)

pub without_each : (P : Row → Type 0) (id : Text) (rows : List Row) → Each P rows → Each P (without id rows)
without_each P id rows e = at_row_each P id (λ _. []) [] rows (λ r is h. tt) tt e

first_stays : (xs ys : List Text) (x : Text) → slice_get xs 0 ≡ Some x → slice_get (xs ++ ys) 0 ≡ Some x
first_stays [] ys x e = absurd (none-some x e)
first_stays (y ∷ xs) ys x e = e

-- a value joins that the argument takes
pub values_each : (rules : List Rule) (a : Rule) (how : Reading) (source : ValueSource) (v : Text) (vs : List Text) (rows : List Row) → arg_by_id rules a.id ≡ Some a
    → value_passes a v ≡ true → Each (HasFirst rules) rows → Each (HasFirst rules) (with_values a.id how source (v ∷ vs) rows)
values_each rules a how source v vs rows known passes e = at_row_each (HasFirst rules) a.id (more_values source (v ∷ vs)) _ rows
    (λ r is h. (record { first = h.first; rule = h.rule; read = first_stays r.values (v ∷ vs) h.first h.read; known = h.known; passes = h.passes }, tt))
    (record { first = v; rule = a; read = refl; known = known; passes = passes }, tt) e

-- what is given has a first value
pub given_first : (rules : List Rule) (id : Text) (rows : List Row) → Each (HasFirst rules) rows → is_given id rows ≡ true → (v : Text) × (first_of id rows ≡ Some v)
given_first rules id rows e given = go (find (λ r. bytes_eq r.id id) rows) refl given
  where
    go : (o : Option Row) → find (λ r. bytes_eq r.id id) rows ≡ o → option_map_or (λ (r : Row). explicit_source r.source) o false ≡ true
        → (v : Text) × (option_and_then (λ (r : Row). slice_get r.values 0) o ≡ Some v)
    go None found none = absurd (true≢false (sym none))
    go (Some r) found some =
        let h = (each_found (HasFirst rules) (λ r. bytes_eq r.id id) rows r e found).0 in
        (h.first, h.read)

-- the argument takes the first value
pub first_passes : (rules : List Rule) (id : Text) (rows : List Row) (v : Text) → Each (HasFirst rules) rows → first_of id rows ≡ Some v
    → (a : Rule) × (arg_by_id rules id ≡ Some a) × (value_passes a v ≡ true)
first_passes rules id rows v e read = go (find (λ r. bytes_eq r.id id) rows) refl read
  where
    go : (o : Option Row) → find (λ r. bytes_eq r.id id) rows ≡ o → option_and_then (λ (r : Row). slice_get r.values 0) o ≡ Some v
        → (a : Rule) × (arg_by_id rules id ≡ Some a) × (value_passes a v ≡ true)
    go None found none = absurd (none-some v none)
    go (Some r) found some =
        let got = each_found (HasFirst rules) (λ r. bytes_eq r.id id) rows r e found in
        let h = got.0 in
        let same : r.id ≡ id = (bytes_eq-Decides r.id id).0 got.1 in
        let first : h.first ≡ v = same_Some h.first v (sym h.read ∙ some) in
        (h.rule, ap (arg_by_id rules) (sym same) ∙ h.known, ap (value_passes h.rule) (sym first) ∙ h.passes)
