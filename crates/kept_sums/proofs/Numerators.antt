-- Sums over one denominator: they are what is made term by term, and a rest is the sum less a term.
use Rattle.std.proofs.Common.{◌≡◌, ◌≢◌, ℕ, ◌+◌, ◌*◌, ◌/◌, ◌^◌, ◌<◌, ◌≤◌, ℤ, pos, ◌+ℤ◌, ◌*ℤ◌, neg_ℤ, nat_abs, Bool, true, false, List, [], ◌∷◌, ◌++◌, Option, Some, None, sym, refl, ap, ap₂, ◌∙◌, subst, arith, lit<, lt_of_le_of_lt, mul-pos, Result, Ok}
use Rattle.std.specs.Prelude.{if◌then◌else◌}
use Prim.Native.Nat.{◌∣◌}
use native.Mathlib.Nat.{dvd_trans, dvd-mul_right, div-mul_cancel}
use Rattle.std.proofs.Math.Nat.{div_self, mul-div_cancel_left}
use Rattle.std.proofs.lemmas.Int.{ints, unsigned_abs-mul}
use Rattle.fractions.specs.Ring.{ring, whole, v, num, ◌:+◌, ◌:*◌}
use Rattle.fractions.specs.Number.{Number, ◌+ℚ◌, zero_ℚ, of_ℤ}
use Rattle.fractions.specs.Gcd.{gcd, gcd-IsGcd}
use Rattle.fractions.specs.Divisors.{quotient_pos}
use Rattle.fractions.specs.Lowest.{over_of, under_of, under_of_positive, lowest_under, lowest_over, ratio, ratio-is}
use Rattle.fractions.specs.declared.Past.{Past}
use Rattle.row_spans.specs.Exact.{fits, sum_fits, if_room, exact_sum, as_end}
use Rattle.row_spans.specs.RowSums.{all_finite, continued, plus_end, sum_from, row_sum}
use Rattle.kept_sums.specs.CommonSums.{numerator, sum_of_numerators, sum_of_sizes, EndOver, AreOver, plus_infinite, infinite_count, IsCommonSum, IsCommonMultiple}
use Rattle.kept_sums.specs.declared.common.CommonSum.{CommonSum}
use Rattle.kept_sums.proofs.Over.{of_number, at_d, is_over, sum_told, number_fits, numbers_fit}

-- ---- the sum term by term
sum_from_common : (d : ℕ) (h : 0 < d) (s : Number) (es : List (Option Number)) → d < 2 ^ 127 → under_of s ∣ d → AreOver d es → nat_abs (of_number d s) + sum_of_sizes d es < 2 ^ 127
    → all_finite es ≡ true → sum_from s es ≡ Ok (at_d (of_number d s +ℤ sum_of_numerators d es) d h)
sum_from_common d h s [] k u o w f = ap Ok (is_over d h s u ∙ ap (λ z. at_d z d h) (ring whole (of_number d s ∷ []) (v 0) (v 0 :+ num (pos 0)) refl))
sum_from_common d h s (None ∷ es) k u o w f = cc
sum_from_common d h s (Some q ∷ es) k u o w f =
    let t = sum_told d s q h u o.0 in
    let a : fits q ≡ true = number_fits d q h k o.0 (lt_of_le_of_lt (le_middle (nat_abs (of_number d s)) (nat_abs (of_number d q)) (sum_of_sizes d es)) w) in
    let b : sum_fits s q ≡ true = numbers_fit d s q h k u o.0 (lt_of_le_of_lt (le_two (nat_abs (of_number d s)) (nat_abs (of_number d q)) (sum_of_sizes d es)) w) in
    let e : plus_end s (Some q) ≡ Ok (s +ℚ q) = ap (λ (x : Bool). continued (if_room x q) (exact_sum s)) a ∙ ap (λ (x : Bool). if_room x (s +ℚ q)) b in
    let n : nat_abs (of_number d (s +ℚ q)) ≡ nat_abs (of_number d s +ℤ of_number d q) = ap nat_abs t.1 in
    ap (λ (r : Result Number Past). continued r (λ t. sum_from t es)) e
    ∙ sum_from_common d h (s +ℚ q) es k t.0 o.1 (lt_of_le_of_lt (le_sums _ _ _ _ _ n (abs_sum (of_number d s) (of_number d q))) w) f
    ∙ ap (λ z. Ok (at_d z d h)) (ap (λ z. z +ℤ sum_of_numerators d es) t.1 ∙ ring whole (of_number d s ∷ of_number d q ∷ sum_of_numerators d es ∷ []) ((v 0 :+ v 1) :+ v 2) (v 0 :+ (v 1 :+ v 2)) refl)
  where
    abs_sum : (x y : ℤ) → nat_abs (x +ℤ y) ≤ nat_abs x + nat_abs y
    abs_sum x y = omega (arith, ints)

    le_middle : (x y z : ℕ) → y ≤ x + (y + z)
    le_middle x y z = omega arith

    le_two : (x y z : ℕ) → x + y ≤ x + (y + z)
    le_two x y z = omega arith

    le_sums : (a b x y z : ℕ) → a ≡ b → b ≤ x + y → a + z ≤ x + (y + z)
    le_sums a b x y z e l = omega (arith, e, l)

one_dvd : (d : ℕ) → 1 ∣ d
one_dvd d = subst (λ n. 1 ∣ n) (by d) (dvd-mul_right 1 d)
  where
    by : (n : ℕ) → 1 * n ≡ n
    by n = omega arith

zero_over : (d : ℕ) → (under_of zero_ℚ ∣ d) × (of_number d zero_ℚ ≡ pos 0)
unfolding under_of over_of of_ℤ lowest_under lowest_over gcd
zero_over d = (subst (λ n. n ∣ d) (sym is_one) (one_dvd d), ap (λ z. z *ℤ pos (d / under_of zero_ℚ)) is_zero ∙ ring whole (pos (d / under_of zero_ℚ) ∷ []) (num (pos 0) :* v 0) (num (pos 0)) refl)
  where
    is_one : under_of zero_ℚ ≡ 1
    is_one = refl

    is_zero : over_of zero_ℚ ≡ pos 0
    is_zero = refl

row_sum_common : (d : ℕ) (es : List (Option Number)) → 0 < d → d < 2 ^ 127 → AreOver d es → sum_of_sizes d es < 2 ^ 127 → all_finite es ≡ true → row_sum es ≡ Ok (Some (ratio (sum_of_numerators d es) d))
row_sum_common d es h k o w f =
    let z = zero_over d in
    ap (λ (b : Bool). if b then as_end (sum_from zero_ℚ es) else Ok None) f
    ∙ ap as_end (sum_from_common d h zero_ℚ es k z.0 o (subst (λ (x : ℤ). nat_abs x + sum_of_sizes d es < 2 ^ 127) (sym z.1) (more (sum_of_sizes d es) w)) f)
    ∙ ap (λ q. Ok (Some q)) (ap (λ z. at_d z d h) (ap (λ x. x +ℤ sum_of_numerators d es) z.1 ∙ ring whole (sum_of_numerators d es ∷ []) (num (pos 0) :+ v 0) (v 0) refl) ∙ sym (ratio-is (sum_of_numerators d es) d h))
  where
    more : (n : ℕ) → n < 2 ^ 127 → 0 + n < 2 ^ 127
    more n l = omega (arith, l)

row_sum_infinite : (es : List (Option Number)) → all_finite es ≡ false → row_sum es ≡ Ok None
row_sum_infinite es f = ap (λ (b : Bool). if b then as_end (sum_from zero_ℚ es) else Ok None) f

-- ---- counts
none_infinite : (es : List (Option Number)) → infinite_count es ≡ 0 → all_finite es ≡ true
none_infinite [] e = refl
none_infinite (None ∷ es) e = absurd (omega (arith, e))
none_infinite (Some q ∷ es) e = none_infinite es e

some_infinite : (es : List (Option Number)) → infinite_count es ≢ 0 → all_finite es ≡ false
some_infinite [] n = absurd (n refl)
some_infinite (None ∷ es) n = refl
some_infinite (Some q ∷ es) n = some_infinite es n

-- ---- all terms
pub all_told : (es : List (Option Number)) (s : CommonSum) → IsCommonSum es s → s.infinite ≡ 0 → row_sum es ≡ Ok (Some (ratio s.total s.denominator))
all_told es s h e =
    row_sum_common s.denominator es h.positive h.short h.over (subst (λ n. n < 2 ^ 127) h.sizes h.light) (none_infinite es (sym h.infinite ∙ e))
    ∙ ap (λ z. Ok (Some (ratio z s.denominator))) (sym h.total)

pub all_infinite : (es : List (Option Number)) (s : CommonSum) → IsCommonSum es s → s.infinite ≢ 0 → row_sum es ≡ Ok None
all_infinite es s h n = row_sum_infinite es (some_infinite es (λ e. n (h.infinite ∙ e)))

-- ---- one term left out
over-out : (d : ℕ) (a b : List (Option Number)) (e : Option Number) → AreOver d (a ++ e ∷ b) → AreOver d (a ++ b)
over-out d [] b e o = o.1
over-out d (x ∷ a) b e o = (o.0, over-out d a b e o.1)

sizes-out : (d : ℕ) (a b : List (Option Number)) (e : Option Number) → sum_of_sizes d (a ++ e ∷ b) ≡ nat_abs (numerator d e) + sum_of_sizes d (a ++ b)
sizes-out d [] b e = refl
sizes-out d (x ∷ a) b e = let h = sizes-out d a b e in omega (arith, h)

numerators-out : (d : ℕ) (a b : List (Option Number)) (e : Option Number) → sum_of_numerators d (a ++ e ∷ b) ≡ numerator d e +ℤ sum_of_numerators d (a ++ b)
numerators-out d [] b e = refl
numerators-out d (x ∷ a) b e = ap (λ z. numerator d x +ℤ z) (numerators-out d a b e)
    ∙ ring whole (numerator d x ∷ numerator d e ∷ sum_of_numerators d (a ++ b) ∷ []) (v 0 :+ (v 1 :+ v 2)) (v 1 :+ (v 0 :+ v 2)) refl

count-out : (a b : List (Option Number)) (e : Option Number) → infinite_count (a ++ e ∷ b) ≡ plus_infinite e (infinite_count (a ++ b))
count-out [] b e = refl
count-out (None ∷ a) b None = let h = count-out a b None in omega (arith, h)
count-out (Some q ∷ a) b None = count-out a b None
count-out (None ∷ a) b (Some p) = let h = count-out a b (Some p) in omega (arith, h)
count-out (Some q ∷ a) b (Some p) = count-out a b (Some p)

light-out : (a b : List (Option Number)) (e : Option Number) (s : CommonSum) → IsCommonSum (a ++ e ∷ b) s → sum_of_sizes s.denominator (a ++ b) < 2 ^ 127
light-out a b e s h = lt_of_le_of_lt (by _ _ _ _ h.sizes (sizes-out s.denominator a b e)) h.light
  where
    by : (m n x y : ℕ) → m ≡ n → n ≡ x + y → y ≤ m
    by m n x y f g = omega (arith, f, g)

module _ (a b : List (Option Number)) (s : CommonSum) where
  pub rest_one : IsCommonSum (a ++ None ∷ b) s → s.infinite ≡ 1 → row_sum (a ++ b) ≡ Ok (Some (ratio s.total s.denominator))
  rest_one h e = let c = count-out a b None in
      row_sum_common s.denominator (a ++ b) h.positive h.short (over-out s.denominator a b None h.over) (light-out a b None s h) (none_infinite (a ++ b) (omega (arith, c, e, h.infinite)))
      ∙ ap (λ z. Ok (Some (ratio z s.denominator))) (sym (h.total ∙ numerators-out s.denominator a b None ∙ ring whole (sum_of_numerators s.denominator (a ++ b) ∷ []) (num (pos 0) :+ v 0) (v 0) refl))

  pub rest_more : IsCommonSum (a ++ None ∷ b) s → s.infinite ≢ 1 → row_sum (a ++ b) ≡ Ok None
  rest_more h n = let c = count-out a b None in row_sum_infinite (a ++ b) (some_infinite (a ++ b) (λ e. n (omega (arith, c, e, h.infinite))))

  pub rest_infinite : (p : Number) → IsCommonSum (a ++ Some p ∷ b) s → s.infinite ≢ 0 → row_sum (a ++ b) ≡ Ok None
  rest_infinite p h n = row_sum_infinite (a ++ b) (some_infinite (a ++ b) (λ e. n (h.infinite ∙ count-out a b (Some p) ∙ e)))

  pub rest_finite : (p : Number) → IsCommonSum (a ++ Some p ∷ b) s → s.infinite ≡ 0 → row_sum (a ++ b) ≡ Ok (Some (ratio (s.total +ℤ neg_ℤ (of_number s.denominator p)) s.denominator))
  rest_finite p h e =
      row_sum_common s.denominator (a ++ b) h.positive h.short (over-out s.denominator a b (Some p) h.over) (light-out a b (Some p) s h) (none_infinite (a ++ b) (sym (count-out a b (Some p)) ∙ sym h.infinite ∙ e))
      ∙ ap (λ z. Ok (Some (ratio z s.denominator))) (less (of_number s.denominator p) (sum_of_numerators s.denominator (a ++ b)) ∙ ap (λ z. z +ℤ neg_ℤ (of_number s.denominator p)) (sym (h.total ∙ numerators-out s.denominator a b (Some p))))
    where
      less : (x y : ℤ) → y ≡ (x +ℤ y) +ℤ neg_ℤ x
      less x y = omega (arith, ints)

-- ---- one term more
parts_of : (u d m : ℕ) → 0 < u → u ∣ d → d ∣ m → m / u ≡ (d / u) * (m / d)
parts_of u d m h k l = ap (λ (n : ℕ). n / u) (sym (by u (d / u) (m / d) d m (div-mul_cancel u k) (div-mul_cancel d l))) ∙ mul-div_cancel_left ((d / u) * (m / d)) h
  where
    by : (u x y d m : ℕ) → x * u ≡ d → y * d ≡ m → u * (x * y) ≡ m
    by u x y d m f g = turned u x y ∙ ap (λ (n : ℕ). y * n) f ∙ g
      where
        turned : (u x y : ℕ) → u * (x * y) ≡ y * (x * u)
        turned u x y = omega arith

module _ (d m : ℕ) (l : d ∣ m) where
  pub numerator-scaled : (e : Option Number) → EndOver d e → numerator m e ≡ numerator d e *ℤ pos (m / d)
  numerator-scaled None o = ring whole (pos (m / d) ∷ []) (num (pos 0)) (num (pos 0) :* v 0) refl
  numerator-scaled (Some q) o =
      ap (λ (n : ℕ). over_of q *ℤ pos n) (parts_of (under_of q) d m (under_of_positive q) o l)
      ∙ ring whole (over_of q ∷ pos (d / under_of q) ∷ pos (m / d) ∷ []) (v 0 :* (v 1 :* v 2)) ((v 0 :* v 1) :* v 2) refl

  numerators-scaled : (es : List (Option Number)) → AreOver d es → sum_of_numerators m es ≡ sum_of_numerators d es *ℤ pos (m / d)
  numerators-scaled [] o = ring whole (pos (m / d) ∷ []) (num (pos 0)) (num (pos 0) :* v 0) refl
  numerators-scaled (e ∷ es) o =
      ap₂ ◌+ℤ◌ (numerator-scaled e o.0) (numerators-scaled es o.1)
      ∙ ring whole (numerator d e ∷ sum_of_numerators d es ∷ pos (m / d) ∷ []) (v 0 :* v 2 :+ v 1 :* v 2) ((v 0 :+ v 1) :* v 2) refl

  sizes-scaled : (es : List (Option Number)) → AreOver d es → sum_of_sizes m es ≡ sum_of_sizes d es * (m / d)
  sizes-scaled [] o = none (m / d)
    where
      none : (n : ℕ) → 0 ≡ 0 * n
      none n = omega arith
  sizes-scaled (e ∷ es) o =
      ap₂ ◌+◌ (ap nat_abs (numerator-scaled e o.0) ∙ unsigned_abs-mul (numerator d e) (pos (m / d))) (sizes-scaled es o.1)
      ∙ both (nat_abs (numerator d e)) (sum_of_sizes d es) (m / d)
    where
      both : (x y k : ℕ) → x * k + y * k ≡ (x + y) * k
      both x y k = omega arith

  pub over-scaled : (es : List (Option Number)) → AreOver d es → AreOver m es
  over-scaled [] o = tt
  over-scaled (None ∷ es) o = (tt, over-scaled es o.1)
  over-scaled (Some q ∷ es) o = (dvd_trans _ o.0 l, over-scaled es o.1)

over-in : (d : ℕ) (a b : List (Option Number)) (e : Option Number) → AreOver d (a ++ b) → EndOver d e → AreOver d (a ++ e ∷ b)
over-in d [] b e o h = (h, o)
over-in d (x ∷ a) b e o h = (o.0, over-in d a b e o.1 h)

-- a sum with one term more, at its place
pub number_more : (a b : List (Option Number)) (q : Number) (s t : CommonSum) → IsCommonSum (a ++ b) s → IsCommonMultiple s.denominator (under_of q) t.denominator
    → t.total ≡ s.total *ℤ pos (t.denominator / s.denominator) +ℤ of_number t.denominator q
    → t.sizes ≡ s.sizes * (t.denominator / s.denominator) + nat_abs (of_number t.denominator q)
    → t.sizes < 2 ^ 127 → t.infinite ≡ s.infinite → IsCommonSum (a ++ Some q ∷ b) t
number_more a b q s t h k total sizes light infinite = record {
  positive = k.positive;
  short = k.short;
  over = over-in t.denominator a b (Some q) (over-scaled s.denominator t.denominator k.first (a ++ b) h.over) k.second;
  total = total
      ∙ ap (λ z. z +ℤ of_number t.denominator q) (ap (λ z. z *ℤ pos (t.denominator / s.denominator)) h.total ∙ sym (numerators-scaled s.denominator t.denominator k.first (a ++ b) h.over))
      ∙ ring whole (sum_of_numerators t.denominator (a ++ b) ∷ of_number t.denominator q ∷ []) (v 0 :+ v 1) (v 1 :+ v 0) refl
      ∙ sym (numerators-out t.denominator a b (Some q));
  sizes = sizes
      ∙ ap (λ (n : ℕ). n + nat_abs (of_number t.denominator q)) (ap (λ (n : ℕ). n * (t.denominator / s.denominator)) h.sizes ∙ sym (sizes-scaled s.denominator t.denominator k.first (a ++ b) h.over))
      ∙ turned (sum_of_sizes t.denominator (a ++ b)) (nat_abs (of_number t.denominator q))
      ∙ sym (sizes-out t.denominator a b (Some q));
  light = light;
  infinite = infinite ∙ h.infinite ∙ sym (count-out a b (Some q));
}
  where
    turned : (m n : ℕ) → m + n ≡ n + m
    turned m n = omega arith

-- the same of a number that is written over the sum's denominator
pub number_over_more : (a b : List (Option Number)) (q : Number) (s t : CommonSum) (z : ℤ) → IsCommonSum (a ++ b) s → under_of q ≡ s.denominator → over_of q ≡ z → t.denominator ≡ s.denominator
    → t.total ≡ s.total +ℤ z → t.sizes ≡ s.sizes + nat_abs z → t.sizes < 2 ^ 127 → t.infinite ≡ s.infinite → IsCommonSum (a ++ Some q ∷ b) t
number_over_more a b q s t z h u o d total sizes light infinite =
    let one : t.denominator / s.denominator ≡ 1 = ap (λ (n : ℕ). n / s.denominator) d ∙ div_self h.positive in
    let own : of_number t.denominator q ≡ z = ap (λ (n : ℕ). over_of q *ℤ pos (t.denominator / n)) u ∙ ap (λ (n : ℕ). over_of q *ℤ pos n) one ∙ ring whole (over_of q ∷ []) (v 0 :* num (pos 1)) (v 0) refl ∙ o in
    let first : s.denominator ∣ t.denominator = subst (λ (n : ℕ). s.denominator ∣ n) (sym d) (itself s.denominator) in
    let second : under_of q ∣ t.denominator = subst (λ (n : ℕ). n ∣ t.denominator) (sym u) first in
    let scaled : s.total ≡ s.total *ℤ pos (t.denominator / s.denominator) = ring whole (s.total ∷ []) (v 0) (v 0 :* num (pos 1)) refl ∙ ap (λ (n : ℕ). s.total *ℤ pos n) (sym one) in
    let spread : s.sizes ≡ s.sizes * (t.denominator / s.denominator) = times_one s.sizes ∙ ap (λ (n : ℕ). s.sizes * n) (sym one) in
    let multiple : IsCommonMultiple s.denominator (under_of q) t.denominator = record { positive = subst (λ (n : ℕ). 0 < n) (sym d) h.positive; short = subst (λ (n : ℕ). n < 2 ^ 127) (sym d) h.short; first = first; second = second } in
    number_more a b q s t h multiple (total ∙ ap₂ ◌+ℤ◌ scaled (sym own)) (sizes ∙ ap₂ ◌+◌ spread (ap nat_abs (sym own))) light infinite
  where
    times_one : (n : ℕ) → n ≡ n * 1
    times_one n = omega arith

    itself : (n : ℕ) → n ∣ n
    itself n = subst (λ (m : ℕ). n ∣ m) (sym (times_one n)) (dvd-mul_right n 1)

pub infinite_more : (a b : List (Option Number)) (s t : CommonSum) → IsCommonSum (a ++ b) s → t.denominator ≡ s.denominator → t.total ≡ s.total → t.sizes ≡ s.sizes → t.infinite ≡ s.infinite + 1 → IsCommonSum (a ++ None ∷ b) t
infinite_more a b s t h d total sizes infinite = record {
  positive = subst (λ (n : ℕ). 0 < n) (sym d) h.positive;
  short = subst (λ (n : ℕ). n < 2 ^ 127) (sym d) h.short;
  over = subst (λ (n : ℕ). AreOver n (a ++ None ∷ b)) (sym d) (over-in s.denominator a b None h.over tt);
  total = total ∙ h.total ∙ ring whole (sum_of_numerators s.denominator (a ++ b) ∷ []) (v 0) (num (pos 0) :+ v 0) refl ∙ sym (numerators-out s.denominator a b None)
      ∙ ap (λ (n : ℕ). sum_of_numerators n (a ++ None ∷ b)) (sym d);
  sizes = sizes ∙ h.sizes ∙ plain (sum_of_sizes s.denominator (a ++ b)) ∙ sym (sizes-out s.denominator a b None) ∙ ap (λ (n : ℕ). sum_of_sizes n (a ++ None ∷ b)) (sym d);
  light = subst (λ (n : ℕ). n < 2 ^ 127) (sym sizes) h.light;
  infinite = infinite ∙ ap (λ (n : ℕ). n + 1) h.infinite ∙ sym (count-out a b None);
}
  where
    plain : (n : ℕ) → n ≡ 0 + n
    plain n = omega arith

-- the same sum over a multiple of its denominator
pub sum_raised : (es : List (Option Number)) (s t : CommonSum) (other : ℕ) → IsCommonSum es s → IsCommonMultiple s.denominator other t.denominator
    → t.total ≡ s.total *ℤ pos (t.denominator / s.denominator) → t.sizes ≡ s.sizes * (t.denominator / s.denominator) → t.sizes < 2 ^ 127 → t.infinite ≡ s.infinite → IsCommonSum es t
sum_raised es s t other h k total sizes light infinite = record {
  positive = k.positive;
  short = k.short;
  over = over-scaled s.denominator t.denominator k.first es h.over;
  total = total ∙ ap (λ z. z *ℤ pos (t.denominator / s.denominator)) h.total ∙ sym (numerators-scaled s.denominator t.denominator k.first es h.over);
  sizes = sizes ∙ ap (λ (n : ℕ). n * (t.denominator / s.denominator)) h.sizes ∙ sym (sizes-scaled s.denominator t.denominator k.first es h.over);
  light = light;
  infinite = infinite ∙ h.infinite;
}

-- ---- one term less
pub number_less : (a b : List (Option Number)) (q : Number) (s t : CommonSum) → IsCommonSum (a ++ Some q ∷ b) s → t.denominator ≡ s.denominator
    → t.total ≡ s.total +ℤ neg_ℤ (of_number s.denominator q) → s.sizes ≡ t.sizes + nat_abs (of_number s.denominator q) → t.infinite ≡ s.infinite → IsCommonSum (a ++ b) t
number_less a b q s t h d total sizes infinite = record {
  positive = subst (λ (n : ℕ). 0 < n) (sym d) h.positive;
  short = subst (λ (n : ℕ). n < 2 ^ 127) (sym d) h.short;
  over = subst (λ (n : ℕ). AreOver n (a ++ b)) (sym d) (over-out s.denominator a b (Some q) h.over);
  total = total ∙ ap (λ z. z +ℤ neg_ℤ (of_number s.denominator q)) (h.total ∙ numerators-out s.denominator a b (Some q))
      ∙ less (of_number s.denominator q) (sum_of_numerators s.denominator (a ++ b)) ∙ ap (λ (n : ℕ). sum_of_numerators n (a ++ b)) (sym d);
  sizes = fewer t.sizes s.sizes (nat_abs (of_number s.denominator q)) (sum_of_sizes s.denominator (a ++ b)) sizes (h.sizes ∙ sizes-out s.denominator a b (Some q)) ∙ ap (λ (n : ℕ). sum_of_sizes n (a ++ b)) (sym d);
  light = lt_of_le_of_lt (within t.sizes s.sizes (nat_abs (of_number s.denominator q)) sizes) h.light;
  infinite = infinite ∙ h.infinite ∙ count-out a b (Some q);
}
  where
    less : (x y : ℤ) → (x +ℤ y) +ℤ neg_ℤ x ≡ y
    less x y = omega (arith, ints)

    fewer : (m n x y : ℕ) → n ≡ m + x → n ≡ x + y → m ≡ y
    fewer m n x y e f = omega (arith, e, f)

    within : (m n x : ℕ) → n ≡ m + x → m ≤ n
    within m n x e = omega (arith, e)

pub infinite_less : (a b : List (Option Number)) (s t : CommonSum) → IsCommonSum (a ++ None ∷ b) s → t.denominator ≡ s.denominator → t.total ≡ s.total → t.sizes ≡ s.sizes → s.infinite ≡ t.infinite + 1 → IsCommonSum (a ++ b) t
infinite_less a b s t h d total sizes infinite = record {
  positive = subst (λ (n : ℕ). 0 < n) (sym d) h.positive;
  short = subst (λ (n : ℕ). n < 2 ^ 127) (sym d) h.short;
  over = subst (λ (n : ℕ). AreOver n (a ++ b)) (sym d) (over-out s.denominator a b None h.over);
  total = total ∙ h.total ∙ numerators-out s.denominator a b None ∙ ring whole (sum_of_numerators s.denominator (a ++ b) ∷ []) (num (pos 0) :+ v 0) (v 0) refl
      ∙ ap (λ (n : ℕ). sum_of_numerators n (a ++ b)) (sym d);
  sizes = sizes ∙ h.sizes ∙ sizes-out s.denominator a b None ∙ plain (sum_of_sizes s.denominator (a ++ b)) ∙ ap (λ (n : ℕ). sum_of_sizes n (a ++ b)) (sym d);
  light = subst (λ (n : ℕ). n < 2 ^ 127) (sym sizes) h.light;
  infinite = fewer t.infinite s.infinite (infinite_count (a ++ b)) infinite (h.infinite ∙ count-out a b None);
}
  where
    plain : (n : ℕ) → 0 + n ≡ n
    plain n = omega arith

    fewer : (m n x : ℕ) → n ≡ m + 1 → n ≡ x + 1 → m ≡ x
    fewer m n x e f = omega (arith, e, f)

-- a common multiple
pub common_is : (c k : ℕ) → 0 < c → 0 < k → c * (k / gcd c k) < 2 ^ 127 → IsCommonMultiple c k (c * (k / gcd c k))
common_is c k h l s = record { positive = mul-pos h (quotient_pos (gcd c k) k (gcd-IsGcd c k).1 l); short = s; first = dvd-mul_right c (k / gcd c k); second = second }
  where
    by : (x g y : ℕ) → (x * g) * y ≡ (y * g) * x
    by x g y = omega arith

    second : k ∣ c * (k / gcd c k)
    second =
        let e : c / gcd c k * gcd c k ≡ c = div-mul_cancel (gcd c k) (gcd-IsGcd c k).0 in
        let f : k / gcd c k * gcd c k ≡ k = div-mul_cancel (gcd c k) (gcd-IsGcd c k).1 in
        subst (λ n. k ∣ n)
        (ap (λ n. n * (c / gcd c k)) (sym f) ∙ by (k / gcd c k) (gcd c k) (c / gcd c k) ∙ ap (λ n. n * (k / gcd c k)) e)
        (dvd-mul_right k (c / gcd c k))

pub no_terms-are : (s : CommonSum) → s.denominator ≡ 1 → s.total ≡ pos 0 → s.sizes ≡ 0 → s.infinite ≡ 0 → IsCommonSum [] s
no_terms-are s d t z i = record {
  positive = subst (λ (n : ℕ). 0 < n) (sym d) (lit< tt);
  short = subst (λ (n : ℕ). n < 2 ^ 127) (sym d) (lit< tt);
  over = tt;
  total = t;
  sizes = z;
  light = subst (λ (n : ℕ). n < 2 ^ 127) (sym z) (lit< tt);
  infinite = i;
}
