-- Numbers that are written are words, and are read again.
use Rattle.std.proofs.Common.{◌≡◌, ℕ, suc, ◌+◌, ◌^◌, ◌<◌, ℤ, pos, nat_abs, neg_ℤ, Bool, true, false, cond, eqb, leb, [], ◌∷◌, map, length, Result, Ok, Err, refl, sym, ap, ap₂, ◌∙◌, arith, subst}
use Rattle.std.specs.Prelude.{not, ◌&&◌, codes, drop, is_some}
use Rattle.std.specs.List.{list_all}
use Rattle.std.specs.Str.{bytes_eq}
use Rattle.std.specs.Char.{is_ascii_digit}
use Rattle.std.proofs.lemmas.Bool.{false_from_ne_true, and_parts, lt-leb, leb-false, ne_eqb, not-true, or_from}
use Rattle.std.proofs.lemmas.Bool.Decides.{nat_tests}
use Rattle.fractions.specs.Number.{Number, neg_ℚ, of_ℤ}
use Rattle.fractions.specs.Order.{<ℚ-not}
use Rattle.fractions.specs.Lowest.{over_of, under_of, under_of_positive, coprime_of, ratio, Fits, IsLowest, over_of-ratio, under_of-ratio, neg_ℚ-ratio}
use Rattle.fractions.specs.Divisors.{nat_abs-neg}
use Rattle.fractions.specs.Gcd.{gcd}
use Rattle.fractions.specs.Compare.{le_ℚ}
use Rattle.fractions.specs.Comparisons.{le_ℚ-is}
use Rattle.fractions.specs.declared.Numbers.{Numbers}
use Rattle.fractions.specs.declared.Numbers.TheVariants.{Decimal, Fractions}
use Rattle.fractions.specs.Places.{place_of, is_decimal}
use Rattle.fractions.proofs.DecimalLaws.{test-from_decimal}
use Rattle.number_texts.specs.Form.{is_minus, has_sign, unsigned, terms_of}
use Rattle.number_texts.specs.Written.{written}
use Rattle.number_texts.specs.Read.{read_of, read_decimal, is_taken}
use Rattle.number_texts.specs.declared.reading.ReadNumber.{ReadNumber}
use Rattle.number_texts.specs.declared.reading.ReadNumber.TheVariants.{NotNumber}
use Rattle.number_texts.proofs.Cutting.{None_pass}
use Rattle.number_texts.proofs.Marks.{IsMark, written-marks}
use Rattle.number_texts.proofs.Again.{read-written, shown-is}
use Rattle.mps_profile.specs.Texts.{Text}
use Rattle.mps_profile.specs.Numerals.{number_on, limit_on, limit_by, is_far, is_far_form, infinity, is_infinity, lowered}
use Rattle.mps_profile.specs.declared.bounds.Limit.{Limit}
use Rattle.mps_profile.specs.declared.bounds.Limit.TheVariants.{At, Above}
use Rattle.mps_written_lines.specs.Words.{ends_word, IsWord}
use Rattle.mps_written_lines.specs.Formats.{free_format}
use Rattle.lp_model.specs.Writable.{WritableNumber, WritableBound, IsNear}

word_digit : (c : ℕ) → is_ascii_digit c ≡ true → not (ends_word c) ≡ true
word_digit c h = grind (arith, nat_tests)

word_mark : IsMark ends_word
word_mark = record { digit = word_digit; minus = refl; point = refl; slash = refl }

-- a byte behind the digits
abbrev late : ℕ → Bool
late b = leb 58 b

late_digit : (c : ℕ) → is_ascii_digit c ≡ true → not (late c) ≡ true
late_digit c h = grind (arith, nat_tests)

late_mark : IsMark late
late_mark = record { digit = late_digit; minus = refl; point = refl; slash = refl }

none_read : (numbers : Numbers) → read_of numbers [] ≡ Err NotNumber
unfolding read_of read_decimal terms_of
none_read Decimal = refl
none_read Fractions = refl

some_read : (numbers : Numbers) (q : Number) (text : Text) → read_of numbers text ≡ Ok q → eqb (length text) 0 ≡ false
some_read numbers q [] is = let clash : ◌≡◌ {A = Result Number ReadNumber} (Err NotNumber) (Ok q) = sym (none_read numbers) ∙ is in cc
some_read numbers q (b ∷ bytes) is = ne_eqb (suc (length bytes)) 0 (λ e. omega (arith, e))

pub fits_of : (numbers : Numbers) (q : Number) → WritableNumber numbers q → Fits q
fits_of Decimal q w = w.0
fits_of Fractions q w = w

pub taken_of : (numbers : Numbers) (q : Number) → WritableNumber numbers q → is_taken numbers q ≡ true
taken_of Decimal q w = test-from_decimal q w.1
taken_of Fractions q w = refl

-- the text of a number is a word that is read as it
pub record IsRead (numbers : Numbers) (q : Number) : Type 0 where
  pub fits : Fits q
  pub taken : is_taken numbers q ≡ true
  pub again : number_on (free_format numbers) (written q) ≡ Ok q
  pub word : IsWord (written q)

by_parts : (numbers : Numbers) (q : Number) → Fits q → is_taken numbers q ≡ true → IsRead numbers q
by_parts numbers q fits taken =
    let again : read_of numbers (written q) ≡ Ok q = read-written numbers q fits taken in
    record { fits = fits; taken = taken; again = again; word = record { some = some_read numbers q (written q) again; plain = written-marks ends_word word_mark q fits } }

pub readable : (numbers : Numbers) (q : Number) → WritableNumber numbers q → IsRead numbers q
readable numbers q w = by_parts numbers q (fits_of numbers q w) (taken_of numbers q w)

-- the same of minus the number
same_size : (z : ℤ) → nat_abs (neg_ℤ z) ≡ nat_abs z
same_size z = nat_abs-neg z

negated : (q : Number) → Fits q → (over_of (neg_ℚ q) ≡ neg_ℤ (over_of q)) × (under_of (neg_ℚ q) ≡ under_of q)
negated q fits =
    let is : ratio (neg_ℤ (over_of q)) (under_of q) ≡ neg_ℚ q = neg_ℚ-ratio (over_of q) (under_of q) (under_of_positive q) ∙ ap neg_ℚ (shown-is q) in
    let low : IsLowest (neg_ℤ (over_of q)) (under_of q) = record {
      over_fits = subst (λ n. n < 2 ^ 127) (sym (same_size (over_of q))) fits.over;
      under_fits = fits.under;
      positive = under_of_positive q;
      coprime = ap (λ n. gcd n (under_of q)) (same_size (over_of q)) ∙ coprime_of q;
    } in
    (ap over_of (sym is) ∙ over_of-ratio _ _ low, ap under_of (sym is) ∙ under_of-ratio _ _ low)

negated_decimal : (q : Number) → Fits q → is_decimal (neg_ℚ q) ≡ is_decimal q
unfolding is_decimal
negated_decimal q fits =
    let parts = negated q fits in
    ap₂ (λ (n d : ℕ). is_some (place_of n d)) (ap nat_abs parts.0 ∙ same_size (over_of q)) parts.1

negated_taken : (numbers : Numbers) (q : Number) → Fits q → is_taken numbers q ≡ true → is_taken numbers (neg_ℚ q) ≡ true
negated_taken Decimal q fits taken = negated_decimal q fits ∙ taken
negated_taken Fractions q fits taken = refl

pub negated_readable : (numbers : Numbers) (q : Number) → WritableNumber numbers q → IsRead numbers (neg_ℚ q)
negated_readable numbers q w =
    let fits : Fits q = fits_of numbers q w in
    let parts = negated q fits in
    by_parts numbers (neg_ℚ q)
    (record { over = subst (λ n. n < 2 ^ 127) (sym (ap nat_abs parts.0 ∙ same_size (over_of q))) fits.over; under = subst (λ n. n < 2 ^ 127) (sym parts.1) fits.under })
    (negated_taken numbers q fits (taken_of numbers q w))

-- the text of a number is none of an infinity
early : (x : ℕ) → not (late x) ≡ true → x < 58
early x h = leb-false 58 x (not-true (late x) h)

lowered_is : (x : ℕ) → x < 58 → lowered x ≡ x
lowered_is x lt = ap (λ (b : Bool). cond (b && leb x 90) (x + 32) x) (lt-leb 65 x (omega (arith, lt)))

other_first : (x : ℕ) → x < 58 → eqb (lowered x) 105 ≡ false
other_first x lt = ap (λ y. eqb y 105) (lowered_is x lt) ∙ ne_eqb x 105 (λ e. omega (arith, e, lt))

no_infinity : (text : Text) → None_pass late text → is_infinity text ≡ false
no_infinity [] none = refl
no_infinity (x ∷ xs) none =
    let first = other_first x (early x (and_parts (not (late x)) (list_all (λ b. not (late b)) xs) none).0) in
    or_from (bytes_eq (map lowered (x ∷ xs)) (codes "inf")) (bytes_eq (map lowered (x ∷ xs)) (codes "infinity"))
    (ap (λ (b : Bool). b && bytes_eq (map lowered xs) (codes "nf")) first) (ap (λ (b : Bool). b && bytes_eq (map lowered xs) (codes "nfinity")) first)

none_dropped : (text : Text) → None_pass late text → None_pass late (drop 1 text)
none_dropped [] none = refl
none_dropped (x ∷ xs) none = (and_parts (not (late x)) (list_all (λ b. not (late b)) xs) none).1

none_unsigned : (text : Text) → None_pass late text → None_pass late (unsigned text)
none_unsigned text none = by_test (has_sign text)
  where
    by_test : (b : Bool) → None_pass late (cond b (drop 1 text) text)
    by_test true = none_dropped text none
    by_test false = none

near_is : (q : Number) → IsNear q → is_far q ≡ false
near_is q near =
    or_from (le_ℚ (of_ℤ (pos (10 ^ 20))) q) (le_ℚ q (neg_ℚ (of_ℤ (pos (10 ^ 20)))))
    (false_from_ne_true _ (λ e. <ℚ-not near.1 ((le_ℚ-is (of_ℤ (pos (10 ^ 20))) q).0 e)))
    (false_from_ne_true _ (λ e. <ℚ-not near.0 ((le_ℚ-is q (neg_ℚ (of_ℤ (pos (10 ^ 20))))).0 e)))

-- the text of a bound is read as the bound
pub limit_read : (numbers : Numbers) (q : Number) → WritableBound numbers q → limit_on (free_format numbers) (written q) ≡ Ok (At q)
limit_read numbers q w =
    let fits : Fits q = fits_of numbers q w.0 in
    let text : Text = written q in
    let read : Result Limit ReadNumber = limit_by (number_on (free_format numbers) text) (is_minus text) (is_far_form (terms_of (unsigned text))) in
    ap (λ (b : Bool). cond b (Ok (infinity (is_minus text))) read) (no_infinity (unsigned text) (none_unsigned text (written-marks late late_mark q fits)))
    ∙ ap (λ (r : Result Number ReadNumber). limit_by r (is_minus text) (is_far_form (terms_of (unsigned text)))) (readable numbers q w.0).again
    ∙ ap (λ (b : Bool). Ok (cond b (infinity (is_minus text)) (At q))) (near_is q w.1)

-- and the word of an infinite upper bound as one
pub infinite_read : (numbers : Numbers) → limit_on (free_format numbers) (codes "inf") ≡ Ok Above
infinite_read numbers = refl
