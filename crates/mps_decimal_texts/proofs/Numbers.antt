-- Numbers that are read as decimal ones are read the same where fractions are taken.
use Rattle.std.proofs.Common.{◌≡◌, ◌⊎◌, inl, inr, ℕ, zero, suc, ◌^◌, pos, neg_ℤ, ◌*ℤ◌, Bool, true, false, cond, List, [], ◌∷◌, ℤ, Option, Some, None, Result, Ok, Err, refl, sym, ap, ◌∙◌, subst, nat_lt, true≢false}
use Rattle.std.specs.Prelude.{◌&&◌, ◌||◌}
use Rattle.std.specs.List.{list_any}
use Rattle.std.proofs.Math.IntN.{negsuc-*ℤ-pos, pos-*ℤ-pos, zero-*ℤ}
use Rattle.fractions.specs.Number.{Number, rational, of_ℤ, neg_ℚ}
use Rattle.fractions.specs.Order.{◌≤ℚ◌}
use Rattle.fractions.specs.Ring.{ring, v, inv}
use Rattle.fractions.specs.Lowest.{ratio, neg_ℚ-ratio}
use Rattle.fractions.specs.Compare.{le_ℚ}
use Rattle.fractions.specs.Comparisons.{le_ℚ-is}
use Rattle.fractions.specs.Signs.{neg_ℚ-≤}
use Rattle.fractions.specs.declared.Numbers.TheVariants.{Decimal, Fractions}
use Rattle.fractions.specs.Places.{is_decimal}
use Rattle.fractions.specs.Scaled.{scaled}
use Rattle.fractions.proofs.Powers.{power_positive}
use Rattle.number_texts.specs.Form.{Terms, cut, down_of, is_minus, is_slash, number, significant, terms_of, unsigned, up_of}
use Rattle.number_texts.specs.Read.{fits, in_range, read_decimal, read_of, read_parts, signed}
use Rattle.number_texts.specs.declared.reading.ReadNumber.{ReadNumber}
use Rattle.number_texts.specs.declared.reading.ReadNumber.TheVariants.{NotNumber, NumberPast}
use Rattle.number_texts.proofs.GrammarLaws.{Cuts, cuts}
use Rattle.mps_profile.specs.Numerals.{infinity, is_far, is_far_form, is_infinity, limit_by, limit_on, number_on}
use Rattle.mps_profile.specs.Texts.{Text}
use Rattle.mps_profile.specs.declared.bounds.Limit.{Limit}
use Rattle.mps_profile.specs.declared.bounds.Limit.TheVariants.{At}
use Rattle.mps_profile.specs.declared.dialect.Dialect.{Dialect}
use Rattle.mps_profile.specs.declared.dialect.Format.{Format}
use Rattle.mps_profile.specs.declared.dialect.Format.TheVariants.{Fixed, Free}

-- the two ways to read a format
abbrev pub decimal : Format → Dialect
decimal format = record { format = format; numbers = Decimal }

abbrev pub fraction : Format → Dialect
fraction format = record { format = format; numbers = Fractions }

-- ---- a number
range_same : (q r : Number) → in_range Decimal q ≡ Ok r → in_range Fractions q ≡ Ok r
range_same q r e = by (fits q) (is_decimal q) e
  where
    by : (a b : Bool) → cond (a && b) (Ok q) (Err NumberPast) ≡ Ok r → cond (a && true) (Ok q) (Err NumberPast) ≡ Ok r
    by true true h = h
    by true false h = absurd (let f = h in cc)
    by false b h = absurd (let f = h in cc)

decimal_same : (negative : Bool) (o : Option Terms) (r : Number) → read_decimal Decimal negative o ≡ Ok r → read_decimal Fractions negative o ≡ Ok r
unfolding read_decimal
decimal_same negative None r e = e
decimal_same negative (Some s) r e = by (nat_lt (significant s.digits) (2 ^ 127)) e
  where
    by : (b : Bool) → cond b (in_range Decimal (scaled (signed negative (number s.digits)) (up_of s) (down_of s))) (Err NumberPast) ≡ Ok r
        → cond b (in_range Fractions (scaled (signed negative (number s.digits)) (up_of s) (down_of s))) (Err NumberPast) ≡ Ok r
    by true h = range_same _ r h
    by false h = absurd (let f = h in cc)

parts_same : (negative : Bool) (p : List ℕ × Option (List ℕ)) (r : Number) → read_parts Decimal negative p ≡ Ok r → read_parts Fractions negative p ≡ Ok r
parts_same negative (text, None) r e = decimal_same negative (terms_of text) r e
parts_same negative (n, Some d) r e = absurd (let f = e in cc)

read_same : (text : Text) (r : Number) → read_of Decimal text ≡ Ok r → read_of Fractions text ≡ Ok r
unfolding read_of
read_same text r e = parts_same (is_minus text) (cut is_slash (unsigned text)) r e

pub number_same : (format : Format) (text : Text) (r : Number) → number_on (decimal format) text ≡ Ok r → number_on (fraction format) text ≡ Ok r
number_same Free text r e = read_same text r e
number_same Fixed text r e = by (list_any is_slash text) e
  where
    by : (b : Bool) → cond b (Err NotNumber) (read_of Decimal text) ≡ Ok r → cond b (Err NotNumber) (read_of Fractions text) ≡ Ok r
    by true h = absurd (let f = h in cc)
    by false h = read_same text r h

-- ---- a number that is far either way
or_true : (a b : Bool) → (a || b) ≡ true → (a ≡ true) ⊎ (b ≡ true)
or_true true b e = inl refl
or_true false b e = inr e

true_or : (a b : Bool) → (a ≡ true) ⊎ (b ≡ true) → (a || b) ≡ true
true_or true b h = refl
true_or false b (inl e) = absurd (true≢false (sym e))
true_or false b (inr e) = e

twice_negated : (q : Number) → neg_ℚ (neg_ℚ q) ≡ q
twice_negated q = ring rational (q ∷ []) (inv (inv (v 0))) (v 0) refl

far_negated : (q : Number) → is_far q ≡ true → is_far (neg_ℚ q) ≡ true
far_negated q e = true_or _ _ (elim (or_true (le_ℚ (of_ℤ (pos (10 ^ 20))) q) (le_ℚ q (neg_ℚ (of_ℤ (pos (10 ^ 20))))) e) [
  | inl above ↦ inr ((le_ℚ-is (neg_ℚ q) (neg_ℚ (of_ℤ (pos (10 ^ 20))))).1 (neg_ℚ-≤ ((le_ℚ-is (of_ℤ (pos (10 ^ 20))) q).0 above)))
  | inr below ↦ inl ((le_ℚ-is (of_ℤ (pos (10 ^ 20))) (neg_ℚ q)).1
      (subst (λ (k : Number). k ≤ℚ neg_ℚ q) (twice_negated (of_ℤ (pos (10 ^ 20)))) (neg_ℚ-≤ ((le_ℚ-is q (neg_ℚ (of_ℤ (pos (10 ^ 20))))).0 below))))
])

negated_times : (n m : ℕ) → neg_ℤ (pos n) *ℤ pos m ≡ neg_ℤ (pos n *ℤ pos m)
negated_times zero m = zero-*ℤ (pos m) ∙ sym (ap neg_ℤ (zero-*ℤ (pos m)))
negated_times (suc n) m = negsuc-*ℤ-pos n m ∙ sym (ap neg_ℤ (pos-*ℤ-pos (suc n) m))

scaled_negated : (n u d : ℕ) → scaled (neg_ℤ (pos n)) u d ≡ neg_ℚ (scaled (pos n) u d)
unfolding scaled
scaled_negated n u d = ap (λ (z : ℤ). ratio z (10 ^ d)) (negated_times n (10 ^ u)) ∙ neg_ℚ-ratio (pos n *ℤ pos (10 ^ u)) (10 ^ d) (power_positive d)

far_signed : (negative : Bool) (n u d : ℕ) → is_far (scaled (pos n) u d) ≡ true → is_far (scaled (signed negative n) u d) ≡ true
far_signed false n u d e = e
far_signed true n u d e = ap is_far (scaled_negated n u d) ∙ far_negated (scaled (pos n) u d) e

-- ---- a limit
-- what is past as a decimal number and far is past where fractions are taken, or far
IsFarOrPast : Result Number ReadNumber → Type 0
IsFarOrPast (Ok q) = is_far q ≡ true
IsFarOrPast (Err NotNumber) = ⊥
IsFarOrPast (Err NumberPast) = Unit {0}

range_far : (q : Number) → is_far q ≡ true → IsFarOrPast (in_range Fractions q)
unfolding IsFarOrPast
range_far q far = by (fits q)
  where
    by : (b : Bool) → IsFarOrPast (cond (b && true) (Ok q) (Err NumberPast))
    by true = far
    by false = tt

decimal_far : (negative : Bool) (o : Option Terms) → read_decimal Decimal negative o ≡ Err NumberPast → is_far_form o ≡ true → IsFarOrPast (read_decimal Fractions negative o)
unfolding read_decimal IsFarOrPast
decimal_far negative None e far = absurd (let f = e in cc)
decimal_far negative (Some s) e far = by (nat_lt (significant s.digits) (2 ^ 127))
  where
    by : (b : Bool) → IsFarOrPast (cond b (in_range Fractions (scaled (signed negative (number s.digits)) (up_of s) (down_of s))) (Err NumberPast))
    by true = range_far _ (far_signed negative (number s.digits) (up_of s) (down_of s) far)
    by false = tt

parts_far : (negative : Bool) (text : Text) (p : List ℕ × Option (List ℕ)) → Cuts is_slash text p → read_parts Decimal negative p ≡ Err NumberPast → is_far_form (terms_of text) ≡ true
    → IsFarOrPast (read_parts Fractions negative p)
parts_far negative text (whole, None) same e far =
    decimal_far negative (terms_of whole) e (subst (λ (t : Text). is_far_form (terms_of t) ≡ true) same far)
parts_far negative text (n, Some d) same e far = absurd (let f = e in cc)

read_far : (text : Text) → read_of Decimal text ≡ Err NumberPast → is_far_form (terms_of (unsigned text)) ≡ true → IsFarOrPast (read_of Fractions text)
unfolding read_of
read_far text e far = parts_far (is_minus text) (unsigned text) (cut is_slash (unsigned text)) (cuts is_slash (unsigned text)) e far

number_far : (format : Format) (text : Text) → number_on (decimal format) text ≡ Err NumberPast → is_far_form (terms_of (unsigned text)) ≡ true → IsFarOrPast (number_on (fraction format) text)
unfolding IsFarOrPast
number_far Free text e far = read_far text e far
number_far Fixed text e far = by (list_any is_slash text) e
  where
    by : (b : Bool) → cond b (Err NotNumber) (read_of Decimal text) ≡ Err NumberPast → IsFarOrPast (cond b (Err NotNumber) (read_of Fractions text))
    by true h = absurd (let f = h in cc)
    by false h = read_far text h far

far_limit : (r : Result Number ReadNumber) (negative : Bool) → IsFarOrPast r → limit_by r negative true ≡ Ok (infinity negative)
unfolding IsFarOrPast
far_limit (Ok q) negative h = ap (λ (b : Bool). Ok (cond b (infinity negative) (At q))) h
far_limit (Err NotNumber) negative h = absurd h
far_limit (Err NumberPast) negative h = refl

limit_same_by : (format : Format) (text : Text) (r : Result Number ReadNumber) (far : Bool) (limit : Limit) → number_on (decimal format) text ≡ r → is_far_form (terms_of (unsigned text)) ≡ far
    → limit_by r (is_minus text) far ≡ Ok limit → limit_by (number_on (fraction format) text) (is_minus text) far ≡ Ok limit
limit_same_by format text (Ok q) far limit is form e = ap (λ (s : Result Number ReadNumber). limit_by s (is_minus text) far) (number_same format text q is) ∙ e
limit_same_by format text (Err NotNumber) far limit is form e = absurd (let f = e in cc)
limit_same_by format text (Err NumberPast) true limit is form e = far_limit (number_on (fraction format) text) (is_minus text) (number_far format text is form) ∙ e
limit_same_by format text (Err NumberPast) false limit is form e = absurd (let f = e in cc)

pub limit_same : (format : Format) (text : Text) (limit : Limit) → limit_on (decimal format) text ≡ Ok limit → limit_on (fraction format) text ≡ Ok limit
limit_same format text limit e = by (is_infinity (unsigned text)) e
  where
    by : (b : Bool) → cond b (Ok (infinity (is_minus text))) (limit_by (number_on (decimal format) text) (is_minus text) (is_far_form (terms_of (unsigned text)))) ≡ Ok limit
        → cond b (Ok (infinity (is_minus text))) (limit_by (number_on (fraction format) text) (is_minus text) (is_far_form (terms_of (unsigned text)))) ≡ Ok limit
    by true h = h
    by false h = limit_same_by format text (number_on (decimal format) text) (is_far_form (terms_of (unsigned text))) limit refl refl h
