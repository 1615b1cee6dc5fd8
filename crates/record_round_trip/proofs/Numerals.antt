-- Ids, counts and numbers are read as they are written.
use Rattle.std.proofs.Common.{◌≡◌, ◌≢◌, ℕ, zero, suc, ◌+◌, ◌%◌, ◌^◌, ◌<◌, ◌≤◌, ℤ, pos, negsuc, nat_abs, Bool, true, false, cond, not, ◌||◌, eqb, ltb, List, [], ◌∷◌, ◌++◌, length, drop, get_or, Some, None, Result, Ok, Err, refl, sym, ap, ap₂, ◌∙◌, ◌*◌, subst, arith}
use Rattle.std.specs.Prelude.{slice_index}
use Rattle.std.specs.Fmt.{decimal, signed_decimal}
use Rattle.std.specs.Str.{bytes_eq}
use Rattle.std.proofs.lemmas.Bool.{and_from, lt-ltb, eqb-true, false_from_ne_true}
use Rattle.std.proofs.lemmas.Bool.Decides.{nat_tests}
use Rattle.std.proofs.lemmas.List.{append-nil, length-append, get_or_append_left}
use Rattle.std.proofs.lemmas.Fmt.{decimal_by_steps_wide, decimal_digit}
use Rattle.std.proofs.lemmas.Slice.Eq.{bytes_eq-Decides}
use Prim.Native.Nat.{◌∣◌}
use native.Mathlib.Nat.{dvd-mul_right, eq-one_of_dvd-one}
use Rattle.std.proofs.lemmas.Nat.Gcd.{dvd-zero}
use Rattle.fractions.specs.Gcd.{gcd, gcd-times}
use Rattle.fractions.specs.Number.{Number, zero_ℚ}
use Rattle.fractions.specs.Compare.{eq_ℚ}
use Rattle.fractions.specs.Lowest.{over_of, under_of, under_of_positive, coprime_of, ratio, Fits}
use Rattle.fractions.specs.Comparisons.{eq_ℚ-is}
use Rattle.number_texts.specs.Form.{cut, is_slash, is_minus, number}
use Rattle.number_texts.specs.Read.{signed}
use Rattle.number_texts.specs.declared.reading.ReadNumber.{ReadNumber}
use Rattle.number_texts.specs.declared.reading.ReadNumber.TheVariants.{NotNumber, NumberPast}
use Rattle.number_texts.proofs.Cutting.{Digits, both_true, None_pass, None_pass-append, cut_none, cut_mark, digits-none, not_slash, no_sign, decimal-digits}
use Rattle.number_texts.proofs.Again.{is_digits-is, shown-is}
use Rattle.number_texts.proofs.Marks.{IsMark, decimal-marks}
use Rattle.record_file.specs.Words.{ratio_word}
use Rattle.record_fields.specs.Words.{is_plain, is_far, id_of, id_fault}
use Rattle.record_fields.specs.Ratios.{is_least, natural_read, whole_by, quotient_by, least_size, parts_read, unsigned_part, ratio_read, ratio_of, number_fault, entry_fault}
use Rattle.record_fields.specs.declared.faults.LineFault.TheVariants.{BadLine, BadId}

-- ---- decimals
pub first_digit : (n : ℕ) → 0 < n → n < 10 ^ 64 → 48 < get_or (decimal n) 0 0
first_digit n some small =
    (decimal_by_steps_wide (λ m ds. (0 < length ds) × (0 < m → 48 < get_or ds 0 0)) (λ m l. (omega arith, λ a. omega arith))
    (λ m ds l h. (omega (arith, length-append ds ((48 + m % 10) ∷ [])), λ a. omega (arith, get_or_append_left ds ((48 + m % 10) ∷ []) 0 0 h.0, h.1 (omega arith)))) n small).1 some

pub plain_decimal : (n : ℕ) → n < 10 ^ 64 → is_plain (decimal n) ≡ true
plain_decimal zero h = ap is_plain (decimal_digit 0 (omega arith))
plain_decimal (suc n) h =
    let d = decimal-digits (suc n) h in
    let f = first_digit (suc n) (omega arith) h in
    let e : eqb (slice_index (decimal (suc n)) 0) 48 ≡ false = grind (arith, nat_tests) in
    and_from _ _ (is_digits-is (decimal (suc n)) d.0 d.1) (ap (λ (b : Bool). not b || eqb (length (decimal (suc n))) 1) e)

pub number_decimal : (n : ℕ) → n < 10 ^ 64 → number (decimal n) ≡ n
number_decimal n h = (decimal-digits n h).2

-- ---- ids
pub near_id : (n : ℕ) → n < 2 ^ 32 → is_far (decimal n) ≡ false
near_id n h = ap (λ (k : ℕ). not (ltb k (2 ^ 32))) (number_decimal n (omega arith)) ∙ ap not (lt-ltb _ _ h)

pub id_again : (n : ℕ) → n < 2 ^ 32 → id_of (decimal n) ≡ n
id_again n h =
    ap (λ (b : Bool). cond b (number (decimal n)) 0) (and_from _ _ (plain_decimal n (omega arith)) (ap not (near_id n h)))
    ∙ number_decimal n (omega arith)

pub id_passes : (n : ℕ) → n < 2 ^ 32 → id_fault (decimal n) ≡ None
id_passes n h =
    ap (λ (b : Bool). cond b (cond (is_far (decimal n)) (Some BadId) None) (Some BadLine)) (plain_decimal n (omega arith))
    ∙ ap (λ (b : Bool). cond b (Some BadId) None) (near_id n h)

-- ---- the sign
abbrev is_below : ℤ → Bool
is_below (pos n) = false
is_below (negsuc n) = true

no_minus : (ds tail : List ℕ) → Digits ds → 0 < length ds → is_minus (ds ++ tail) ≡ false
no_minus [] tail h p = absurd (omega arith)
no_minus (d ∷ ds) tail h p = (no_sign d (both_true _ _ h).0).1

signs : (z : ℤ) (tail : List ℕ) → nat_abs z < 10 ^ 64 → (is_minus (signed_decimal z ++ tail) ≡ is_below z) × (unsigned_part (signed_decimal z ++ tail) ≡ decimal (nat_abs z) ++ tail)
signs (pos n) tail h =
    let d = decimal-digits n h in
    let m = no_minus (decimal n) tail d.0 d.1 in
    (m, ap (λ (b : Bool). cond b (drop 1 (decimal n ++ tail)) (decimal n ++ tail)) m)
signs (negsuc n) tail h = (refl, refl)

signed_again : (z : ℤ) → signed (is_below z) (nat_abs z) ≡ z
signed_again (pos n) = refl
signed_again (negsuc n) = refl

-- ---- numbers
least_of : (k n : ℕ) → k ≤ n → n < 10 ^ 64 → is_least k (decimal n) ≡ true
least_of k n l h =
    let e : ltb n k ≡ false = grind (arith, nat_tests) in
    and_from _ _ (plain_decimal n h) (ap (λ (m : ℕ). not (ltb m k)) (number_decimal n h) ∙ ap not e)

natural_again : (k n : ℕ) → k ≤ n → n < 2 ^ 127 → natural_read k (decimal n) ≡ Ok n
natural_again k n l h =
    ap (λ (b : Bool). cond b (cond (ltb (number (decimal n)) (2 ^ 127)) (Ok (number (decimal n))) (Err NumberPast)) (Err NotNumber)) (least_of k n l (omega arith))
    ∙ ap (λ (m : ℕ). cond (ltb m (2 ^ 127)) (Ok m) (Err NumberPast)) (number_decimal n (omega arith))
    ∙ ap (λ (b : Bool). cond b (Ok n) (Err NumberPast)) (lt-ltb _ _ h)

whole_natural : (z : ℤ) → nat_abs z < 2 ^ 127 → natural_read (least_size (is_below z)) (decimal (nat_abs z)) ≡ Ok (nat_abs z)
whole_natural (pos n) h = natural_again 0 n (omega arith) h
whole_natural (negsuc n) h = natural_again 1 (suc n) (omega arith) h

whole_again : (z : ℤ) → nat_abs z < 2 ^ 127 → whole_by (is_below z) (natural_read (least_size (is_below z)) (decimal (nat_abs z))) ≡ Ok (ratio z 1)
whole_again z h = ap (whole_by (is_below z)) (whole_natural z h) ∙ ap (λ (y : ℤ). Ok (ratio y 1)) (signed_again z)

quotient_again : (z : ℤ) (d : ℕ) → 1 ≤ nat_abs z → 2 ≤ d → nat_abs z < 2 ^ 127 → d < 2 ^ 127 → gcd (nat_abs z) d ≡ 1
    → quotient_by (is_below z) (natural_read 1 (decimal (nat_abs z))) (natural_read 2 (decimal d)) ≡ Ok (ratio z d)
quotient_again z d lo two h k g =
    ap₂ (λ (a b : Result ℕ ReadNumber). quotient_by (is_below z) a b) (natural_again 1 (nat_abs z) lo h) (natural_again 2 d two k)
    ∙ ap (λ (c : ℕ). cond (eqb c 1) (Ok (ratio (signed (is_below z) (nat_abs z)) d)) (Err NotNumber)) g
    ∙ ap (λ (y : ℤ). Ok (ratio y d)) (signed_again z)

-- a number whose denominator isn't 1 isn't 0
one_under : (d : ℕ) → gcd 0 d ≡ 1 → d ≡ 1
one_under d e = eq-one_of_dvd-one (subst (λ (k : ℕ). d ∣ (k * 1)) e (gcd-times 0 d 1 d (dvd-zero d) (dvd-mul_right d 1)))

over_some : (q : Number) → under_of q ≢ 1 → 1 ≤ nat_abs (over_of q)
over_some q n = by (nat_abs (over_of q)) (coprime_of q)
  where
    by : (k : ℕ) → gcd k (under_of q) ≡ 1 → 1 ≤ k
    by zero e = absurd (n (one_under (under_of q) e))
    by (suc k) e = omega arith

parts_again : (q : Number) (b : Bool) → eqb (under_of q) 1 ≡ b → Fits q
    → parts_read (is_below (over_of q)) (cut is_slash (decimal (nat_abs (over_of q)) ++ cond b [] (47 ∷ decimal (under_of q)))) ≡ Ok q
parts_again q true e f =
    let w = decimal-digits (nat_abs (over_of q)) (omega (arith, f.over)) in
    let one : under_of q ≡ 1 = eqb-true _ _ e in
    ap (λ (ds : List ℕ). parts_read (is_below (over_of q)) (cut is_slash ds)) (append-nil (decimal (nat_abs (over_of q))))
    ∙ ap (parts_read (is_below (over_of q))) (cut_none is_slash (decimal (nat_abs (over_of q))) (digits-none is_slash not_slash (decimal (nat_abs (over_of q))) w.0))
    ∙ whole_again (over_of q) f.over
    ∙ ap (λ (d : ℕ). Ok (ratio (over_of q) d)) (sym one)
    ∙ ap Ok (shown-is q)
parts_again q false e f =
    let w = decimal-digits (nat_abs (over_of q)) (omega (arith, f.over)) in
    let p = under_of_positive q in
    let other : under_of q ≢ 1 = λ one. absurd (let t : true ≡ false = sym (ap (λ (d : ℕ). eqb d 1) one) ∙ e in cc) in
    ap (parts_read (is_below (over_of q))) (cut_mark is_slash (decimal (nat_abs (over_of q))) 47 (decimal (under_of q)) (digits-none is_slash not_slash (decimal (nat_abs (over_of q))) w.0) refl)
    ∙ quotient_again (over_of q) (under_of q) (over_some q other) (omega (arith, p, other)) f.over f.under (coprime_of q)
    ∙ ap Ok (shown-is q)

pub ratio_again : (q : Number) → Fits q → ratio_read (ratio_word q) ≡ Ok q
unfolding ratio_read
ratio_again q f =
    let s = signs (over_of q) (cond (eqb (under_of q) 1) [] (47 ∷ decimal (under_of q))) (omega (arith, f.over)) in
    ap₂ (λ (b : Bool) (w : List ℕ). parts_read b (cut is_slash w)) s.0 s.1 ∙ parts_again q (eqb (under_of q) 1) refl f

pub number_again : (q : Number) → Fits q → ratio_of (ratio_word q) ≡ q
number_again q f = rw (ratio_again q f) refl

pub number_passes : (q : Number) → Fits q → number_fault (ratio_read (ratio_word q)) ≡ None
number_passes q f = ap number_fault (ratio_again q f)

pub entry_passes : (q : Number) → Fits q → q ≢ zero_ℚ → entry_fault (ratio_read (ratio_word q)) ≡ None
entry_passes q f n = ap entry_fault (ratio_again q f) ∙ ap (λ (b : Bool). cond b (Some BadLine) None) (false_from_ne_true (eq_ℚ q zero_ℚ) (λ e. n ((eq_ℚ-is q zero_ℚ).0 e)))

-- what isn't a number isn't the word of one
pub no_word : (w : List ℕ) (q : Number) → Fits q → ratio_read w ≡ Err NotNumber → bytes_eq (ratio_word q) w ≡ false
no_word w q f e = false_from_ne_true (bytes_eq (ratio_word q) w) (λ t.
    let same : ratio_word q ≡ w = (bytes_eq-Decides (ratio_word q) w).0 t in
    let wrong : Ok q ≡ Err NotNumber = sym (ratio_again q f) ∙ ap ratio_read same ∙ e in absurd cc)

-- ---- bytes
pub signed-marks : (p : ℕ → Bool) → IsMark p → (z : ℤ) → nat_abs z < 10 ^ 64 → None_pass p (signed_decimal z)
signed-marks p m (pos n) h = decimal-marks p m n h
signed-marks p m (negsuc n) h = and_from _ _ m.minus (decimal-marks p m (suc n) h)

pub ratio-marks : (p : ℕ → Bool) → IsMark p → (q : Number) → Fits q → None_pass p (ratio_word q)
ratio-marks p m q f =
    None_pass-append p (signed_decimal (over_of q)) (cond (eqb (under_of q) 1) [] (47 ∷ decimal (under_of q)))
    (signed-marks p m (over_of q) (omega (arith, f.over))) (tail (eqb (under_of q) 1))
  where
    tail : (b : Bool) → None_pass p (cond b [] (47 ∷ decimal (under_of q)))
    tail true = refl
    tail false = and_from _ _ m.slash (decimal-marks p m (under_of q) (omega (arith, f.under)))
