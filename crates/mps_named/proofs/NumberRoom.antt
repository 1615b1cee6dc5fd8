-- Numbers that are read can be written, and so can their negatives.
use Rattle.std.proofs.Common.{◌≡◌, ℕ, ◌<◌, ◌^◌, ℤ, pos, neg_ℤ, nat_abs, Bool, true, false, cond, List, Option, Some, None, Ok, Err, [], ◌∷◌, arith, sym, refl, ap, ◌∙◌, subst, lit<}
use Rattle.std.specs.Prelude.{Result, nat_lt, ◌==◌, ◌&&◌, not, IfSome}
use Rattle.std.specs.List.{list_any}
use Rattle.std.proofs.lemmas.Bool.Decides.{nat_tests}
use Rattle.fractions.specs.Ring.{ring, v, num, ◌:*◌, inv}
use Rattle.fractions.specs.Number.{Number, rational, Fraction, integral, neg_ℚ, of_ℤ, zero_ℚ, one_ℚ, of_ℤ-neg_ℤ}
use Rattle.fractions.specs.Gcd.{gcd}
use Rattle.fractions.specs.Divisors.{gcd_pos_r, nat_abs-neg}
use Rattle.fractions.specs.Lowest.{Fits, ratio, ratio-is, lowest_over, lowest_under, over-is, under-is, over_of, under_of, of_lowest}
use Rattle.fractions.specs.Decimal as decimals
use Rattle.fractions.specs.declared.Numbers.{Numbers}
use Rattle.fractions.specs.declared.Numbers.TheVariants.{Decimal, Fractions}
use Rattle.fractions.specs.Scaled.{scaled}
use Rattle.fractions.proofs.DecimalLaws.{decimal-from_test}
use Rattle.number_texts.specs.declared.reading.ReadNumber.{ReadNumber}
use Rattle.number_texts.specs.declared.reading.ReadNumber.TheVariants.{NotNumber, NumberPast}
use Rattle.number_texts.specs.Form.{Terms, terms_of, cut, is_slash, is_minus, unsigned, is_digits, significant, number, up_of, down_of}
use Rattle.number_texts.specs.Read.{signed, fits, is_taken, in_range, read_decimal, read_quotient, read_parts, read_of}
use Rattle.number_texts.proofs.RangeLaws.{Fits-is, size-signed}
use Rattle.mps_profile.specs.Texts.{Text}
use Rattle.mps_profile.specs.declared.dialect.Format.{Format}
use Rattle.mps_profile.specs.declared.dialect.Format.TheVariants.{Free, Fixed}
use Rattle.mps_profile.specs.declared.dialect.Dialect.{Dialect}
use Rattle.mps_profile.specs.Numerals.{number_in, number_on}
use Rattle.mps_profile.specs.Rows.{value_in}
use Rattle.lp_model.specs.Writable.{WritableNumber}
use Rattle.mps_named.proofs.SumsBack.{smaller, negative-Fits}

-- ---- what the test of numbers that are taken says
pub from_test : (numbers : Numbers) (q : Number) → Fits q → is_taken numbers q ≡ true → WritableNumber numbers q
from_test Decimal q f h = (f, decimal-from_test q h)
from_test Fractions q f h = f

pub has_room : (numbers : Numbers) (q : Number) → WritableNumber numbers q → Fits q
has_room Decimal q h = h.0
has_room Fractions q h = h

-- ---- negatives, 0 and 1
negative_decimal : (q : Number) → decimals.Decimal q → decimals.Decimal (neg_ℚ q)
negative_decimal q d = record {
  places = d.places;
  few = d.few;
  written = record {
    digits = neg_ℤ d.written.digits;
    small = subst (λ (n : ℕ). n < 2 ^ 127) (sym (nat_abs-neg d.written.digits)) d.written.small;
    value =
        ring rational (q ∷ of_ℤ (pos (10 ^ d.places)) ∷ []) (inv (v 0) :* v 1) (inv (v 0 :* v 1)) refl
        ∙ ap neg_ℚ d.written.value ∙ sym (of_ℤ-neg_ℤ d.written.digits);
  };
}

pub negative : (numbers : Numbers) (q : Number) → WritableNumber numbers q → WritableNumber numbers (neg_ℚ q)
negative Decimal q h = (negative-Fits q h.0, negative_decimal q h.1)
negative Fractions q h = negative-Fits q h

whole : (numbers : Numbers) (n : ℕ) → gcd n 1 ≡ 1 → n < 2 ^ 127 → WritableNumber numbers (of_ℤ (pos n))
unfolding of_ℤ
whole numbers n e l = by numbers
  where
    room : Fits (of_ℤ (pos n))
    room = let low = of_lowest (integral (pos n)) e in record {
      over = subst (λ (z : ℤ). nat_abs z < 2 ^ 127) (sym low.0) l;
      under = subst (λ (d : ℕ). d < 2 ^ 127) (sym low.1) (lit< tt);
    }

    decimal : decimals.Decimal (of_ℤ (pos n))
    decimal = record {
      places = 0;
      few = omega arith;
      written = record { digits = pos n; small = l; value = ring rational (of_ℤ (pos n) ∷ []) (v 0 :* num (pos 1)) (v 0) refl };
    }

    by : (numbers : Numbers) → WritableNumber numbers (of_ℤ (pos n))
    by Decimal = (room, decimal)
    by Fractions = room

pub none : (numbers : Numbers) → WritableNumber numbers zero_ℚ
unfolding gcd
none numbers = whole numbers 0 refl (lit< tt)

pub one : (numbers : Numbers) → WritableNumber numbers one_ℚ
unfolding gcd
one numbers = whole numbers 1 refl (lit< tt)

-- ---- what is read
ratio-Fits : (n : ℤ) (d : ℕ) → 0 < d → nat_abs n < 2 ^ 127 → d < 2 ^ 127 → Fits (ratio n d)
unfolding over_of under_of
ratio-Fits n d p l u =
    let x : Fraction = record { over = n; under = d; positive = p } in
    let g : ℕ = gcd (nat_abs n) d in
    let pg : 0 < g = gcd_pos_r (nat_abs n) d p in
    subst Fits (sym (ratio-is n d p)) (record {
      over = smaller (lowest_over x) g (2 ^ 127) pg (subst (λ (z : ℤ). nat_abs z < 2 ^ 127) (sym (over-is x)) l);
      under = smaller (pos (lowest_under x)) g (2 ^ 127) pg (subst (λ (k : ℕ). k < 2 ^ 127) (sym (under-is x)) u);
    })

in_range-number : (numbers : Numbers) (q r : Number) → in_range numbers q ≡ Ok r → WritableNumber numbers r
in_range-number numbers q r = by (fits q) (is_taken numbers q) refl refl
  where
    by : (x y : Bool) → fits q ≡ x → is_taken numbers q ≡ y → cond (x && y) (Ok q) (Err NumberPast) ≡ Ok r → WritableNumber numbers r
    by true true e f h = let same : q ≡ r = cc in subst (WritableNumber numbers) same (from_test numbers q (Fits-is q e) f)
    by true false e f h = cc
    by false y e f h = cc

decimal-number : (numbers : Numbers) (negative : Bool) (o : Option Terms) (r : Number) → read_decimal numbers negative o ≡ Ok r → WritableNumber numbers r
unfolding read_decimal
decimal-number numbers negative None r h = cc
decimal-number numbers negative (Some s) r h = by (nat_lt (significant s.digits) (2 ^ 127)) h
  where
    by : (x : Bool) → cond x (in_range numbers (scaled (signed negative (number s.digits)) (up_of s) (down_of s))) (Err NumberPast) ≡ Ok r → WritableNumber numbers r
    by true h = in_range-number numbers _ r h
    by false h = cc

quotient-number : (negative : Bool) (n d : List ℕ) (r : Number) → read_quotient negative n d ≡ Ok r → WritableNumber Fractions r
unfolding read_quotient
quotient-number negative n d r = by (is_digits n) (is_digits d) (number d == 0) (nat_lt (number n) (2 ^ 127)) (nat_lt (number d) (2 ^ 127)) refl refl refl
  where
    room : (number d == 0) ≡ false → nat_lt (number n) (2 ^ 127) ≡ true → nat_lt (number d) (2 ^ 127) ≡ true → Fits (ratio (signed negative (number n)) (number d))
    room e f g = ratio-Fits (signed negative (number n)) (number d) (grind (arith, nat_tests, e)) (subst (λ (k : ℕ). k < 2 ^ 127) (sym (size-signed negative (number n))) (grind (arith, nat_tests, f))) (grind (arith, nat_tests, g))

    by : (a b z x y : Bool) → (number d == 0) ≡ z → nat_lt (number n) (2 ^ 127) ≡ x → nat_lt (number d) (2 ^ 127) ≡ y
        → cond (a && b && not z) (cond (x && y) (Ok (ratio (signed negative (number n)) (number d))) (Err NumberPast)) (Err NotNumber) ≡ Ok r → WritableNumber Fractions r
    by true true false true true e f g h = let same : ratio (signed negative (number n)) (number d) ≡ r = cc in subst Fits same (room e f g)
    by true true false true false e f g h = cc
    by true true false false y e f g h = cc
    by true true true x y e f g h = cc
    by true false z x y e f g h = cc
    by false b z x y e f g h = cc

parts-number : (numbers : Numbers) (negative : Bool) (parts : List ℕ × Option (List ℕ)) (r : Number) → read_parts numbers negative parts ≡ Ok r → WritableNumber numbers r
parts-number numbers negative (text, None) r h = decimal-number numbers negative (terms_of text) r h
parts-number Decimal negative (n, Some d) r h = cc
parts-number Fractions negative (n, Some d) r h = quotient-number negative n d r h

read-number : (numbers : Numbers) (text : Text) (r : Number) → read_of numbers text ≡ Ok r → WritableNumber numbers r
unfolding read_of
read-number numbers text r h = parts-number numbers (is_minus text) (cut is_slash (unsigned text)) r h

pub on-number : (dialect : Dialect) (text : Text) (r : Number) → number_on dialect text ≡ Ok r → WritableNumber dialect.numbers r
on-number dialect text r h = by dialect.format h
  where
    fixed : (b : Bool) → cond b (Err NotNumber) (read_of dialect.numbers text) ≡ Ok r → WritableNumber dialect.numbers r
    fixed true h = cc
    fixed false h = read-number dialect.numbers text r h

    by : (format : Format) → number_in format dialect.numbers text ≡ Ok r → WritableNumber dialect.numbers r
    by Free h = read-number dialect.numbers text r h
    by Fixed h = fixed (list_any is_slash text) h

-- the number of a card, where it has one
pub value-number : (dialect : Dialect) (text : Text) → IfSome (value_in (number_on dialect text)) (WritableNumber dialect.numbers)
value-number dialect text = by (number_on dialect text) refl
  where
    by : (found : Result Number ReadNumber) → number_on dialect text ≡ found → IfSome (value_in found) (WritableNumber dialect.numbers)
    by (Ok r) h = on-number dialect text r h
    by (Err fault) h = tt
