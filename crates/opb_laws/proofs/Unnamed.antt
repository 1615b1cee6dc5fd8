-- Of a name that is no column's nothing has been said.
use Rattle.std.proofs.Common.{◌≡◌, ℕ, ℤ, pos, ◌==◌, List, [], ◌∷◌, ◌++◌, Bool, true, false, cond, ◌+◌, Option, Some, None, is_some, true≢false, get_or, refl, sym, ap, ◌∙◌, length, length-append, arith}
use Rattle.std.specs.Prelude.{◌+ℤ◌, All}
use Rattle.std.specs.Str.{bytes_eq}
use Rattle.std.proofs.lemmas.List.{get_or_append_left}
use Rattle.std.proofs.lemmas.Slice.Eq.{bytes_eq-Decides}
use Rattle.names.specs.Names.{place}
use Rattle.mps_profile.specs.Columns.{joined}
use Rattle.text_lines.proofs.Splitting.{none_passes}
use Rattle.mps_laws.proofs.Places.{at_last, place_within}
use Rattle.mps_named.proofs.Agreement.{other_name, same_name}
use Rattle.opb_text.specs.Words.{Text}
use Rattle.opb_text.specs.Tokens.{Token, Minimum, AtLeast, Equal, End, Number, Past, Plain, Negated, Odd}
use Rattle.opb_text.specs.Statements.{Term, open_row, open_terms, sum_at}
use Rattle.opb_text.specs.Columns.{coefficient, column_names}

-- a name that has not come with another one is a different one
apart : (name other : Text) (names : List Text) (o : Option ℕ) → place other names ≡ o → place name (cond (is_some o) names (names ++ other ∷ [])) ≡ None
    → (place name names ≡ None) × (bytes_eq other name ≡ false)
apart name other names (Some k) known none = (none, other_name names other name k known none)
apart name other names None fresh none = (by (place name names) refl, behind (bytes_eq other name) refl)
  where
    others : All (λ (text : Text). bytes_eq name text ≡ false) (names ++ other ∷ [])
    others = none_passes (bytes_eq name) (names ++ other ∷ []) none

    long : length (names ++ other ∷ []) ≡ length names + 1
    long = length-append names (other ∷ [])

    behind : (b : Bool) → bytes_eq other name ≡ b → bytes_eq other name ≡ false
    behind false is = is
    behind true is =
        let same : other ≡ name = (bytes_eq-Decides other name).0 is in
        let differs : bytes_eq name other ≡ false = ap (bytes_eq name) (sym (at_last names other)) ∙ others (length names) [] (omega (arith, long)) in
        absurd (true≢false (sym (ap (bytes_eq name) same ∙ same_name name) ∙ differs))

    by : (o : Option ℕ) → place name names ≡ o → place name names ≡ None
    by None there = there
    by (Some k) there =
        let at = place_within name names k there in
        let differs : bytes_eq name (get_or (names ++ other ∷ []) k []) ≡ false = others k [] (omega (arith, at.0, long)) in
        let same : get_or (names ++ other ∷ []) k [] ≡ name = get_or_append_left names (other ∷ []) [] k at.0 ∙ sym at.1 in
        absurd (true≢false (sym (ap (bytes_eq name) same ∙ same_name name) ∙ differs))

joined_apart : (name other : Text) (names : List Text) → place name (joined other names) ≡ None → (place name names ≡ None) × (bytes_eq other name ≡ false)
joined_apart name other names none = apart name other names (place other names) refl none

-- what is said of such a name
pub record IsUnsaid (tokens : List Token) (name : Text) : Type 0 where
  pub sum : sum_at name (open_terms tokens) ≡ pos 0
  pub coefficients : (i : ℕ) → coefficient tokens i name ≡ pos 0

either : (b : Bool) (x y : ℤ) → x ≡ pos 0 → y ≡ pos 0 → cond b x y ≡ pos 0
either true x y h k = h
either false x y h k = k

passed : (name : Text) (term : Term) (before : List Term) → bytes_eq term.name name ≡ false → sum_at name (term ∷ before) ≡ sum_at name before
passed name term before is = ap (λ b. cond b (sum_at name before +ℤ term.value) (sum_at name before)) is

pub unsaid : (tokens : List Token) (name : Text) → place name (column_names tokens) ≡ None → IsUnsaid tokens name
unsaid [] name none = record { sum = refl; coefficients = λ i. refl }
unsaid (Minimum ∷ before) name none = let old = unsaid before name none in record { sum = old.sum; coefficients = old.coefficients }
unsaid (AtLeast ∷ before) name none = let old = unsaid before name none in record { sum = old.sum; coefficients = old.coefficients }
unsaid (Equal ∷ before) name none = let old = unsaid before name none in record { sum = old.sum; coefficients = old.coefficients }
unsaid (End ∷ before) name none = let old = unsaid before name none in record { sum = refl; coefficients = λ i. either (open_row before == i) _ _ old.sum (old.coefficients i) }
unsaid (Number value ∷ before) name none = let old = unsaid before name none in record { sum = old.sum; coefficients = old.coefficients }
unsaid (Past ∷ before) name none = let old = unsaid before name none in record { sum = old.sum; coefficients = old.coefficients }
unsaid (Odd ∷ before) name none = let old = unsaid before name none in record { sum = old.sum; coefficients = old.coefficients }
unsaid (Plain other ∷ before) name none =
    let parts = joined_apart name other (column_names before) none in
    let old = unsaid before name parts.0 in
    record { sum = passed name _ (open_terms before) parts.1 ∙ old.sum; coefficients = old.coefficients }
unsaid (Negated other ∷ before) name none =
    let parts = joined_apart name other (column_names before) none in
    let old = unsaid before name parts.0 in
    record { sum = passed name _ (open_terms before) parts.1 ∙ old.sum; coefficients = old.coefficients }
