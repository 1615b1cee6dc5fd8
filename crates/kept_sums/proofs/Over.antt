-- Fractions over one denominator: sums that have room in whatever order they are made.
use Rattle.std.proofs.Common.{◌≡◌, ℕ, ◌+◌, ◌*◌, ◌/◌, ◌^◌, ◌<◌, ◌≤◌, ℤ, pos, ◌+ℤ◌, ◌*ℤ◌, nat_abs, true, [], ◌∷◌, sym, refl, ap, ap₂, ◌∙◌, subst, arith, lt_of_le_of_lt, mul_comm}
use Prim.Native.Nat.{◌∣◌}
use native.Mathlib.Nat.{dvd_trans, dvd-mul_right, div-mul_cancel, dvd_of_mul-dvd-mul_right}
use Rattle.std.proofs.Math.Nat.{mul-div_cancel_left}
use Rattle.std.proofs.lemmas.Nat.Gcd.{le_of_dvd}
use Rattle.std.proofs.lemmas.Int.{ints, unsigned_abs-mul}
use mathlib.Core.Quot.{sound}
use Rattle.fractions.specs.Ring.{ring, whole, v, ◌:+◌, ◌:*◌}
use Rattle.fractions.specs.Number.{Number, Fraction, fraction, ◌+ℚ◌, lift2}
use Rattle.fractions.specs.Gcd.{gcd, gcd-IsGcd, gcd-times}
use Rattle.fractions.specs.Divisors.{gcd_pos_l, quotient_pos}
use Rattle.fractions.specs.Lowest.{over_of, under_of, under_of_positive, fraction-shown, lowest_over, lowest_under, over-is, under-is, lowest_positive}
use Rattle.fractions.specs.FracWords.{StepsFit}
use Rattle.row_spans.specs.Exact.{fits, sum_fits}
use Rattle.row_spans.proofs.Rooms.{fits-is, sum_fits-is}

-- ---- sizes
mul_le : (a b m n : ℕ) → a ≤ m → b ≤ n → a * b ≤ m * n
mul_le a b m n h k = grind arith

div_le : (b g : ℕ) → 0 < b → g ∣ b → b / g ≤ b
div_le b g h d = le_of_dvd h (subst (λ k. (b / g) ∣ k) (div-mul_cancel g d) (dvd-mul_right (b / g) g))

abs_sum : (x y : ℤ) → nat_abs (x +ℤ y) ≤ nat_abs x + nat_abs y
abs_sum x y = omega (arith, ints)

-- ---- common multiples
-- what b and e divide, b (e / gcd b e) divides
pub multiple : (b e d : ℕ) → 0 < b → b ∣ d → e ∣ d → (b * (e / gcd b e)) ∣ d
multiple b e d h k l =
    let g : 0 < gcd b e = gcd_pos_l b e h in
    let x : (b * e) ∣ (gcd b e * d) = gcd-times b e d (b * e) (by_left b (d / e) e d (div-mul_cancel e l)) (by_right e (d / b) b d (div-mul_cancel b k)) in
    let y : b * e ≡ b * (e / gcd b e) * gcd b e = shifted b e (e / gcd b e) (gcd b e) (div-mul_cancel (gcd b e) (gcd-IsGcd b e).1) in
    dvd_of_mul-dvd-mul_right (b * (e / gcd b e)) g (subst (λ n. (b * (e / gcd b e) * gcd b e) ∣ n) (mul_comm (gcd b e) d) (subst (λ n. n ∣ (gcd b e * d)) y x))
  where
    by_left : (b q e d : ℕ) → q * e ≡ d → (b * e) ∣ (b * d)
    by_left b q e d h = subst (λ n. (b * e) ∣ n) (turned b e q ∙ ap (λ (n : ℕ). b * n) h) (dvd-mul_right (b * e) q)
      where
        turned : (b e q : ℕ) → b * e * q ≡ b * (q * e)
        turned b e q = omega arith

    by_right : (e q b d : ℕ) → q * b ≡ d → (b * e) ∣ (e * d)
    by_right e q b d h = subst (λ n. (b * e) ∣ n) (turned b e q ∙ ap (λ (n : ℕ). e * n) h) (dvd-mul_right (b * e) q)
      where
        turned : (b e q : ℕ) → b * e * q ≡ e * (q * b)
        turned b e q = omega arith

    shifted : (b e x g : ℕ) → x * g ≡ e → b * e ≡ b * x * g
    shifted b e x g h = ap (λ (n : ℕ). b * n) (sym h) ∙ turned b x g
      where
        turned : (b x g : ℕ) → b * (x * g) ≡ b * x * g
        turned b x g = omega arith

-- a factor of a quotient
factor_le : (b x d : ℕ) → 0 < b → 0 < d → b ∣ d → (b * x) ∣ d → x ≤ d / b
factor_le b x d h p k l = by (d / b) (div-mul_cancel b k) (le_of_dvd p l)
  where
    by : (m : ℕ) → m * b ≡ d → b * x ≤ d → x ≤ m
    by m e f = cancel m (subst (λ n. b * x ≤ n) (sym e) f)
      where
        cancel : (m : ℕ) → b * x ≤ m * b → x ≤ m
        cancel m f = grind arith

-- ---- numbers over d
abbrev pub of_number : ℕ → Number → ℤ
of_number d q = over_of q *ℤ pos (d / under_of q)

some_part : (d u : ℕ) → 0 < d → u ∣ d → 1 ≤ d / u
some_part d u h k = quotient_pos u d k h

size-is : (d : ℕ) (q : Number) → nat_abs (of_number d q) ≡ nat_abs (over_of q) * (d / under_of q)
size-is d q = unsigned_abs-mul (over_of q) (pos (d / under_of q))

over-≤ : (d : ℕ) (q : Number) → 0 < d → under_of q ∣ d → nat_abs (over_of q) ≤ nat_abs (of_number d q)
over-≤ d q h k = subst (λ n. nat_abs (over_of q) ≤ n) (sym (size-is d q)) (by (nat_abs (over_of q)) (d / under_of q) (some_part d (under_of q) h k))
  where
    by : (a b : ℕ) → 1 ≤ b → a ≤ a * b
    by a b l = let x = mul_le a 1 a b (omega arith) l in omega (arith, x)

abbrev pub at_d : ℤ → (d : ℕ) → 0 < d → Number
at_d n d h = fraction (record { over = n; under = d; positive = h })

-- a number is its numerator over d
pub is_over : (d : ℕ) (h : 0 < d) (q : Number) → under_of q ∣ d → q ≡ at_d (of_number d q) d h
is_over d h q k = sym (fraction-shown q) ∙ sound (
    ap (λ (m : ℕ). over_of q *ℤ pos m) (sym (div-mul_cancel (under_of q) k))
    ∙ ring whole (over_of q ∷ pos (d / under_of q) ∷ pos (under_of q) ∷ []) (v 0 :* (v 1 :* v 2)) ((v 0 :* v 1) :* v 2) refl)

pub sum_over : (d : ℕ) (h : 0 < d) (m n : ℤ) → at_d m d h +ℚ at_d n d h ≡ at_d (m +ℤ n) d h
unfolding ◌+ℚ◌ lift2
sum_over d h m n = sound (ring whole (m ∷ n ∷ pos d ∷ []) ((v 0 :* v 2 :+ v 1 :* v 2) :* v 2) ((v 0 :+ v 1) :* (v 2 :* v 2)) refl)

-- n over d can be written over d, with the numerator n
pub told_over : (n : ℤ) (d : ℕ) (h : 0 < d) → (under_of (at_d n d h) ∣ d) × (of_number d (at_d n d h) ≡ n)
unfolding over_of under_of
told_over n d h =
    let x : Fraction = record { over = n; under = d; positive = h } in
    let e : lowest_under x * gcd (nat_abs n) d ≡ d = under-is x in
    let k : lowest_under x ∣ d = subst (λ m. lowest_under x ∣ m) e (dvd-mul_right (lowest_under x) (gcd (nat_abs n) d)) in
    let q : d / lowest_under x ≡ gcd (nat_abs n) d = ap (λ (m : ℕ). m / lowest_under x) (sym e) ∙ mul-div_cancel_left (gcd (nat_abs n) d) (lowest_positive x) in
    (k, ap (λ (m : ℕ). lowest_over x *ℤ pos m) q ∙ over-is x)

-- so can a sum of two, with the sum of the numerators
pub sum_told : (d : ℕ) (p q : Number) → 0 < d → under_of p ∣ d → under_of q ∣ d → (under_of (p +ℚ q) ∣ d) × (of_number d (p +ℚ q) ≡ of_number d p +ℤ of_number d q)
sum_told d p q h k l =
    let e : p +ℚ q ≡ at_d (of_number d p +ℤ of_number d q) d h = ap₂ ◌+ℚ◌ (is_over d h p k) (is_over d h q l) ∙ sum_over d h (of_number d p) (of_number d q) in
    let t = told_over (of_number d p +ℤ of_number d q) d h in
    (subst (λ r. under_of r ∣ d) (sym e) t.0, ap (of_number d) e ∙ t.1)

pub number_fits : (d : ℕ) (q : Number) → 0 < d → d < 2 ^ 127 → under_of q ∣ d → nat_abs (of_number d q) < 2 ^ 127 → fits q ≡ true
number_fits d q h s k l = (fits-is q).1 (record {
  over = lt_of_le_of_lt (over-≤ d q h k) l;
  under = lt_of_le_of_lt (le_of_dvd h k) s;
})

-- no step of a sum is past
steps_have_room : (a c : ℤ) (b e d : ℕ) → 0 < b → 0 < e → 0 < d → d < 2 ^ 127 → b ∣ d → e ∣ d → nat_abs a * (d / b) + nat_abs c * (d / e) < 2 ^ 127 → StepsFit a b c e
steps_have_room a c b e d pb pe pd short k l w = record {
  left = lt_of_le_of_lt left_le (lt_of_le_of_lt (le_left (nat_abs a * (d / b)) (nat_abs c * (d / e))) w);
  right = lt_of_le_of_lt right_le (lt_of_le_of_lt (le_right (nat_abs a * (d / b)) (nat_abs c * (d / e))) w);
  sum = lt_of_le_of_lt whole_step w;
  under = lt_of_le_of_lt under_le short;
}
  where
    le_left : (m n : ℕ) → m ≤ m + n
    le_left m n = omega arith

    le_right : (m n : ℕ) → n ≤ m + n
    le_right m n = omega arith

    same : (m : ℕ) → m ≤ m
    same m = omega arith

    over_first : e / gcd b e ≤ d / b
    over_first = factor_le b (e / gcd b e) d pb pd k (multiple b e d pb k l)

    second : (e * (b / gcd b e)) ∣ d
    second = subst (λ n. n ∣ d) (turned (div-mul_cancel (gcd b e) (gcd-IsGcd b e).1) (div-mul_cancel (gcd b e) (gcd-IsGcd b e).0)) (multiple b e d pb k l)
      where
        shift : (x y g : ℕ) → y * g * x ≡ x * g * y
        shift x y g = omega arith

        turned : e / gcd b e * gcd b e ≡ e → b / gcd b e * gcd b e ≡ b → b * (e / gcd b e) ≡ e * (b / gcd b e)
        turned f h = ap (λ (n : ℕ). n * (e / gcd b e)) (sym h) ∙ shift (e / gcd b e) (b / gcd b e) (gcd b e) ∙ ap (λ (n : ℕ). n * (b / gcd b e)) f

    over_second : b / gcd b e ≤ d / e
    over_second = factor_le e (b / gcd b e) d pe pd l second

    left_le : nat_abs (a *ℤ pos (e / gcd b e)) ≤ nat_abs a * (d / b)
    left_le = subst (λ n. n ≤ nat_abs a * (d / b)) (sym (unsigned_abs-mul a (pos (e / gcd b e)))) (mul_le (nat_abs a) (e / gcd b e) (nat_abs a) (d / b) (same (nat_abs a)) over_first)

    right_le : nat_abs (c *ℤ pos (b / gcd b e)) ≤ nat_abs c * (d / e)
    right_le = subst (λ n. n ≤ nat_abs c * (d / e)) (sym (unsigned_abs-mul c (pos (b / gcd b e)))) (mul_le (nat_abs c) (b / gcd b e) (nat_abs c) (d / e) (same (nat_abs c)) over_second)

    both : (x y m n s : ℕ) → s ≤ x + y → x ≤ m → y ≤ n → s ≤ m + n
    both x y m n s f g h = omega (arith, f, g, h)

    whole_step : nat_abs (a *ℤ pos (e / gcd b e) +ℤ c *ℤ pos (b / gcd b e)) ≤ nat_abs a * (d / b) + nat_abs c * (d / e)
    whole_step = both _ _ _ _ _ (abs_sum (a *ℤ pos (e / gcd b e)) (c *ℤ pos (b / gcd b e))) left_le right_le

    h : ℕ
    h = gcd (nat_abs (a *ℤ pos (e / gcd b e) +ℤ c *ℤ pos (b / gcd b e))) (gcd b e)

    smaller : e / h ≤ e
    smaller = div_le e h pe (dvd_trans _ (gcd-IsGcd (nat_abs (a *ℤ pos (e / gcd b e) +ℤ c *ℤ pos (b / gcd b e))) (gcd b e)).1 (gcd-IsGcd b e).1)

    through : (x y z m : ℕ) → x * y ≤ x * z → z * x ≤ m → x * y ≤ m
    through x y z m f g = let t = mul_comm x z in omega (arith, f, g, t)

    under_le : (b / gcd b e) * (e / h) ≤ d
    under_le = through (b / gcd b e) (e / h) e d (mul_le (b / gcd b e) (e / h) (b / gcd b e) e (same (b / gcd b e)) smaller) (le_of_dvd pd second)

pub numbers_fit : (d : ℕ) (p q : Number) → 0 < d → d < 2 ^ 127 → under_of p ∣ d → under_of q ∣ d → nat_abs (of_number d p) + nat_abs (of_number d q) < 2 ^ 127 → sum_fits p q ≡ true
numbers_fit d p q h s k l w = (sum_fits-is p q).1 (steps_have_room (over_of p) (over_of q) (under_of p) (under_of q) d (under_of_positive p) (under_of_positive q) h s k l
    (subst (λ n. n < 2 ^ 127) (ap₂ ◌+◌ (size-is d p) (size-is d q)) w))
