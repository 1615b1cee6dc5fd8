-- The bounds of columns can be written.
use Rattle.std.proofs.Common.{◌≡◌, ℕ, ◌^◌, T, Bool, true, false, not, cond, List, [], ◌∷◌, Option, Some, None, Ok, Err, pos, negsuc, sym, refl, subst}
use Rattle.std.specs.Prelude.{Result, ◌&&◌, IfSome, unwrap_or}
use Rattle.std.proofs.lemmas.Bool.{or_parts}
use Rattle.fractions.specs.Ring.{ring, num, ◌:-◌, inv}
use Rattle.fractions.specs.Number.{Number, rational, of_ℤ, zero_ℚ, one_ℚ}
use Rattle.fractions.specs.Order.{non_neg_ℚ, non_neg-of_ℤ}
use Rattle.fractions.specs.Compare.{lt_ℚ}
use Rattle.fractions.specs.declared.Numbers.{Numbers}
use Rattle.number_texts.specs.Form.{terms_of, unsigned, is_minus}
use Rattle.number_texts.specs.declared.reading.ReadNumber.{ReadNumber}
use Rattle.number_texts.specs.declared.reading.ReadNumber.TheVariants.{NotNumber, NumberPast}
use Rattle.names.specs.Names.{place}
use Rattle.mps_profile.specs.Texts.{Text}
use Rattle.mps_profile.specs.Cards.{Card, RowCard, MarkerCard, ColumnCard, SideCard, RangeCard, ValuedCard, BareCard, UnknownCard}
use Rattle.mps_profile.specs.Numerals.{number_on, is_far, infinity, limit_at, is_far_form, limit_by, is_infinity, limit_on}
use Rattle.mps_profile.specs.Bounds.{valued_change, bare_change}
use Rattle.mps_profile.specs.Sides.{default_lower}
use Rattle.mps_profile.specs.Sets.{counts, bound_set}
use Rattle.mps_profile.specs.Rows.{is_at}
use Rattle.mps_profile.specs.Columns.{column_names, change_in, change_on, change_at, lower_in, upper_in, or_before, lower_of, upper_of, upper_bound, lower_bound, lower_under, semi_upper_of}
use Rattle.mps_profile.specs.declared.dialect.Dialect.{Dialect}
use Rattle.mps_profile.specs.declared.bounds.Limit.{Limit}
use Rattle.mps_profile.specs.declared.bounds.Limit.TheVariants.{Below, At, Above}
use Rattle.mps_profile.specs.declared.bounds.Change.{Change}
use Rattle.mps_profile.specs.declared.bounds.Valued.{Valued}
use Rattle.mps_profile.specs.declared.bounds.Valued as valued
use Rattle.mps_profile.specs.declared.bounds.Bare.{Bare}
use Rattle.mps_profile.specs.declared.bounds.Bare as bare
use Rattle.lp_model.specs.Writable.{WritableNumber, IsNear, WritableBound}
use Rattle.mps_named.proofs.NumberRoom.{none, one, on-number}

-- ---- numbers that are near
near : (q : Number) → is_far q ≡ false → IsNear q
near q e =
    let both = or_parts _ _ e in
    (record { lt = subst (λ (t : Bool). T (not t)) (sym both.1) tt }, record { lt = subst (λ (t : Bool). T (not t)) (sym both.0) tt })

under_zero : (q : Number) (n : ℕ) → q ≡ of_ℤ (negsuc n) → T (not (non_neg_ℚ q))
under_zero q n e = subst (λ (r : Number). T (not (non_neg_ℚ r))) (sym e) (subst (λ (t : Bool). T (not t)) (sym (non_neg-of_ℤ (negsuc n))) tt)

zero_bound : (numbers : Numbers) → WritableBound numbers zero_ℚ
zero_bound numbers = (
  none numbers,
  (
    record { lt = under_zero _ 99999999999999999999 (ring rational [] (inv (num (pos (10 ^ 20))) :- num (pos 0)) (num (negsuc 99999999999999999999)) refl) },
    record { lt = under_zero _ 99999999999999999999 (ring rational [] (num (pos 0) :- num (pos (10 ^ 20))) (num (negsuc 99999999999999999999)) refl) },
  ),
)

one_bound : (numbers : Numbers) → WritableBound numbers one_ℚ
one_bound numbers = (
  one numbers,
  (
    record { lt = under_zero _ 100000000000000000000 (ring rational [] (inv (num (pos (10 ^ 20))) :- num (pos 1)) (num (negsuc 100000000000000000000)) refl) },
    record { lt = under_zero _ 99999999999999999998 (ring rational [] (num (pos 1) :- num (pos (10 ^ 20))) (num (negsuc 99999999999999999998)) refl) },
  ),
)

-- ---- limits
abbrev LimitFits : Numbers → Limit → Type 0
LimitFits numbers Below = Unit {0}
LimitFits numbers (At q) = WritableBound numbers q
LimitFits numbers Above = Unit {0}

abbrev FoundFits : Numbers → Result Limit ReadNumber → Type 0
FoundFits numbers (Ok limit) = LimitFits numbers limit
FoundFits numbers (Err fault) = Unit {0}

infinity-fits : (numbers : Numbers) (negative : Bool) → LimitFits numbers (infinity negative)
infinity-fits numbers true = tt
infinity-fits numbers false = tt

at-fits : (numbers : Numbers) (q : Number) (negative : Bool) → WritableNumber numbers q → LimitFits numbers (limit_at q negative)
at-fits numbers q negative w = by (is_far q) refl
  where
    by : (b : Bool) → is_far q ≡ b → LimitFits numbers (cond b (infinity negative) (At q))
    by true e = infinity-fits numbers negative
    by false e = (w, near q e)

past-fits : (numbers : Numbers) (negative far : Bool) → FoundFits numbers (limit_by (Err NumberPast) negative far)
past-fits numbers negative true = infinity-fits numbers negative
past-fits numbers negative false = tt

limit-fits : (dialect : Dialect) (text : Text) → FoundFits dialect.numbers (limit_on dialect text)
limit-fits dialect text = by (is_infinity (unsigned text))
  where
    by_number : (n : Result Number ReadNumber) (negative far : Bool) → number_on dialect text ≡ n → FoundFits dialect.numbers (limit_by n negative far)
    by_number (Ok q) negative far e = at-fits dialect.numbers q negative (on-number dialect text q e)
    by_number (Err NumberPast) negative far e = past-fits dialect.numbers negative far
    by_number (Err NotNumber) negative far e = tt

    by : (b : Bool) → FoundFits dialect.numbers (cond b (Ok (infinity (is_minus text))) (limit_by (number_on dialect text) (is_minus text) (is_far_form (terms_of (unsigned text)))))
    by true = infinity-fits dialect.numbers (is_minus text)
    by false = by_number (number_on dialect text) (is_minus text) (is_far_form (terms_of (unsigned text))) refl

-- ---- what cards set
abbrev EndFits : Numbers → Option (Option Number) → Type 0
EndFits numbers set = IfSome set (λ end. IfSome end (WritableBound numbers))

abbrev ChangeFits : Numbers → Option Change → Type 0
ChangeFits numbers change = EndFits numbers (lower_in change) × EndFits numbers (upper_in change)

valued-fits : (numbers : Numbers) (kind : Valued) (limit : Limit) → LimitFits numbers limit → ChangeFits numbers (valued_change kind limit)
valued-fits numbers valued.TheVariants.Lower Below h = (tt, tt)
valued-fits numbers valued.TheVariants.Lower (At q) h = (h, tt)
valued-fits numbers valued.TheVariants.Lower Above h = (tt, tt)
valued-fits numbers valued.TheVariants.Upper Below h = (tt, tt)
valued-fits numbers valued.TheVariants.Upper (At q) h = (tt, h)
valued-fits numbers valued.TheVariants.Upper Above h = (tt, tt)
valued-fits numbers valued.TheVariants.Fixed Below h = (tt, tt)
valued-fits numbers valued.TheVariants.Fixed (At q) h = (h, h)
valued-fits numbers valued.TheVariants.Fixed Above h = (tt, tt)
valued-fits numbers valued.TheVariants.WholeLower Below h = (tt, tt)
valued-fits numbers valued.TheVariants.WholeLower (At q) h = (h, tt)
valued-fits numbers valued.TheVariants.WholeLower Above h = (tt, tt)
valued-fits numbers valued.TheVariants.WholeUpper Below h = (tt, tt)
valued-fits numbers valued.TheVariants.WholeUpper (At q) h = (tt, h)
valued-fits numbers valued.TheVariants.WholeUpper Above h = (tt, tt)
valued-fits numbers valued.TheVariants.SemiContinuous Below h = (tt, tt)
valued-fits numbers valued.TheVariants.SemiContinuous (At q) h = (tt, h)
valued-fits numbers valued.TheVariants.SemiContinuous Above h = (tt, tt)

bare-fits : (numbers : Numbers) (kind : Bare) → ChangeFits numbers (Some (bare_change kind))
bare-fits numbers bare.TheVariants.Free = (tt, tt)
bare-fits numbers bare.TheVariants.NoLower = (tt, tt)
bare-fits numbers bare.TheVariants.NoUpper = (tt, tt)
bare-fits numbers bare.TheVariants.Binary = (zero_bound numbers, one_bound numbers)

found-fits : (numbers : Numbers) (kind : Valued) (found : Result Limit ReadNumber) → FoundFits numbers found → ChangeFits numbers (change_in kind found)
found-fits numbers kind (Ok limit) h = valued-fits numbers kind limit h
found-fits numbers kind (Err fault) h = (tt, tt)

chosen-fits : (numbers : Numbers) (b : Bool) (change : Option Change) → ChangeFits numbers change → ChangeFits numbers (cond b change None)
chosen-fits numbers true change h = h
chosen-fits numbers false change h = (tt, tt)

change-fits : (dialect : Dialect) (card : Card) (before : List Card) (j : ℕ) → ChangeFits dialect.numbers (change_at dialect card before j)
change-fits dialect (RowCard kind name) before j = (tt, tt)
change-fits dialect (MarkerCard word) before j = (tt, tt)
change-fits dialect (ColumnCard name pairs) before j = (tt, tt)
change-fits dialect (SideCard set pairs) before j = (tt, tt)
change-fits dialect (RangeCard set pairs) before j = (tt, tt)
change-fits dialect (ValuedCard set kind column number) before j =
    chosen-fits dialect.numbers (counts (bound_set before) set && is_at (place column (column_names before)) j) (change_on dialect kind number)
    (found-fits dialect.numbers kind (limit_on dialect number) (limit-fits dialect number))
change-fits dialect (BareCard set kind column) before j =
    chosen-fits dialect.numbers (counts (bound_set before) set && is_at (place column (column_names before)) j) (Some (bare_change kind)) (bare-fits dialect.numbers kind)
change-fits dialect UnknownCard before j = (tt, tt)

-- ---- bounds
or_before-fits : (numbers : Numbers) (end before : Option (Option Number)) → EndFits numbers end → EndFits numbers before → EndFits numbers (or_before end before)
or_before-fits numbers None before h k = k
or_before-fits numbers (Some end) before h k = h

upper_of-fits : (dialect : Dialect) (cards : List Card) (j : ℕ) → EndFits dialect.numbers (upper_of dialect cards j)
upper_of-fits dialect [] j = tt
upper_of-fits dialect (card ∷ before) j =
    or_before-fits dialect.numbers (upper_in (change_at dialect card before j)) (upper_of dialect before j) (change-fits dialect card before j).1 (upper_of-fits dialect before j)

lower_of-fits : (dialect : Dialect) (cards : List Card) (j : ℕ) → EndFits dialect.numbers (lower_of dialect cards j)
lower_of-fits dialect [] j = tt
lower_of-fits dialect (card ∷ before) j =
    or_before-fits dialect.numbers (lower_in (change_at dialect card before j)) (lower_of dialect before j) (change-fits dialect card before j).0 (lower_of-fits dialect before j)

or_default : (numbers : Numbers) (end : Option (Option Number)) (other : Option Number) → EndFits numbers end → IfSome other (WritableBound numbers) → IfSome (unwrap_or end other) (WritableBound numbers)
or_default numbers None other h k = k
or_default numbers (Some end) other h k = h

default-fits : (numbers : Numbers) (upper : Option Number) → IfSome (default_lower upper) (WritableBound numbers)
default-fits numbers None = zero_bound numbers
default-fits numbers (Some upper) = by (lt_ℚ upper zero_ℚ)
  where
    by : (b : Bool) → IfSome (cond b None (Some zero_ℚ)) (WritableBound numbers)
    by true = tt
    by false = zero_bound numbers

under-fits : (numbers : Numbers) (semi : Bool) (upper : Option Number) → IfSome (lower_under semi upper) (WritableBound numbers)
under-fits numbers true upper = zero_bound numbers
under-fits numbers false upper = default-fits numbers upper

pub upper_bound-fits : (dialect : Dialect) (cards : List Card) (j : ℕ) → IfSome (upper_bound dialect cards j) (WritableBound dialect.numbers)
upper_bound-fits dialect cards j = or_default dialect.numbers (upper_of dialect cards j) None (upper_of-fits dialect cards j) tt

pub lower_bound-fits : (dialect : Dialect) (cards : List Card) (j : ℕ) → IfSome (lower_bound dialect cards j) (WritableBound dialect.numbers)
lower_bound-fits dialect cards j =
    or_default dialect.numbers (lower_of dialect cards j) (lower_under (unwrap_or (semi_upper_of dialect cards j) false) (upper_bound dialect cards j)) (lower_of-fits dialect cards j)
    (under-fits dialect.numbers (unwrap_or (semi_upper_of dialect cards j) false) (upper_bound dialect cards j))
