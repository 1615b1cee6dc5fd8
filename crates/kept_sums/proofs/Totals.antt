-- Least common denominators of at most 2 ^ 63, and sums over them.
use Rattle.std.proofs.Common.{◌≡◌, ℕ, ◌+◌, ◌*◌, ◌/◌, ◌^◌, ◌<◌, ◌≤◌, nat_abs, Bool, true, false, [], ◌∷◌, Option, Some, None, Err, sym, refl, ◌∙◌, subst, arith}
use Prim.Native.Nat.{◌∣◌}
use native.Mathlib.Nat.{dvd_trans, dvd-mul_right}
use Rattle.std.proofs.lemmas.Nat.Gcd.{le_of_dvd}
use Rattle.std.proofs.lemmas.Bool.{true≢false}
use Rattle.fractions.specs.Number.{Number}
use Rattle.fractions.specs.Gcd.{gcd}
use Rattle.fractions.specs.Lowest.{under_of}
use Rattle.fractions.specs.declared.Past.{Past}
use Rattle.row_spans.specs.Exact.{fits, if_room, as_end, exact_end}
use Rattle.row_spans.specs.Spans.{end_at}
use Rattle.row_spans.specs.declared.span.Span.{Span}
use Rattle.row_spans.specs.declared.span.Extreme.TheVariants.{Least, Greatest}
use Rattle.kept_sums.specs.CommonSums.{numerator, EndOver}
use Rattle.kept_sums.specs.RowTotals.{IsLight, IsLeastMultiple, IsLeastWith, IsPastWith, ArePastWith}
use Rattle.kept_sums.specs.declared.row_totals.EndSum.{EndSum}
use Rattle.kept_sums.proofs.Over.{multiple, of_number, number_fits}
use Rattle.kept_sums.proofs.Numerators.{common_is, over-scaled}

below : (d : ℕ) → d ≤ 2 ^ 63 → d < 2 ^ 127
below d l = omega (arith, l)

-- ---- multiples
pub least_multiple_is : (c k d : ℕ) → 0 < c → 0 < k → d ≡ c * (k / gcd c k) → d ≤ 2 ^ 63 → IsLeastMultiple c k d
least_multiple_is c k d h l e s =
    let m = common_is c k h l (subst (λ (n : ℕ). n < 2 ^ 127) e (below d s)) in record {
      positive = subst (λ (n : ℕ). 0 < n) (sym e) m.positive;
      short = s;
      first = subst (λ (n : ℕ). c ∣ n) (sym e) m.first;
      second = subst (λ (n : ℕ). k ∣ n) (sym e) m.second;
      least = λ n p u v. subst (λ (x : ℕ). x ∣ n) (sym e) (multiple c k n h u v);
    }

-- a common multiple is at least the least one
pub multiple_past : (c k d : ℕ) → 0 < c → d ≡ c * (k / gcd c k) → 2 ^ 63 < d → (m : ℕ) → 0 < m → c ∣ m → k ∣ m → 2 ^ 63 < m
multiple_past c k d h e l m p u v = by d m l (subst (λ (n : ℕ). n ≤ m) (sym e) (le_of_dvd p (multiple c k m h u v)))
  where
    by : (a b : ℕ) → 2 ^ 63 < a → a ≤ b → 2 ^ 63 < b
    by a b f g = omega (arith, f, g)

pub product_past : (n : ℕ) → (n < 2 ^ 128 → ⊥) → 2 ^ 63 < n
product_past n f = by n (not_below n f)
  where
    not_below : (n : ℕ) → (n < 2 ^ 128 → ⊥) → 2 ^ 128 ≤ n
    not_below n f = omega (arith, f)

    by : (n : ℕ) → 2 ^ 128 ≤ n → 2 ^ 63 < n
    by n l = omega (arith, l)

-- ---- one end
pub number_with : (c d : ℕ) (q : Number) → IsLeastMultiple c (under_of q) d → IsLeastWith c (Some q ∷ []) d
number_with c d q h = record { positive = h.positive; short = h.short; first = h.first; over = (h.second, tt); least = λ m p u o. h.least m p u o.0 }

itself : (c : ℕ) → c ∣ c
itself c = subst (λ n. c ∣ n) (by c) (dvd-mul_right c 1)
  where
    by : (n : ℕ) → n * 1 ≡ n
    by n = omega arith

pub infinite_with : (c : ℕ) → 0 < c → c ≤ 2 ^ 63 → IsLeastWith c (None ∷ []) c
infinite_with c h s = record { positive = h; short = s; first = itself c; over = (tt, tt); least = λ m p u o. u }

pub number_past : (c : ℕ) (q : Number) → ((m : ℕ) → 0 < m → c ∣ m → under_of q ∣ m → 2 ^ 63 < m) → IsPastWith c (Some q)
number_past c q f m p u o l w = by m (f m p u o) l
  where
    by : (m : ℕ) → 2 ^ 63 < m → m ≤ 2 ^ 63 → ⊥
    by m f l = omega (arith, f, l)

-- an end that has no room has a numerator or a denominator that is greater
no_room : (q : Number) (m : ℕ) → fits q ≡ false → 0 < m → m ≤ 2 ^ 63 → under_of q ∣ m → nat_abs (of_number m q) ≤ 2 ^ 63 → ⊥
no_room q m f p l o w = true≢false (sym (number_fits m q p (below m l) o (below (nat_abs (of_number m q)) w)) ∙ f)

pub end_past : (e : Option Number) (x : Past) → Err x ≡ exact_end e → (m : ℕ) → 0 < m → m ≤ 2 ^ 63 → EndOver m e → nat_abs (numerator m e) ≤ 2 ^ 63 → ⊥
end_past None x h m p l o w = cc
end_past (Some q) x h m p l o w = by (fits q) refl h
  where
    by : (b : Bool) → fits q ≡ b → Err x ≡ as_end (if_room b q) → ⊥
    by true f g = cc
    by false f g = no_room q m f p l o w

-- ---- both ends
pub two_with : (c d f : ℕ) (a b : Option Number) → IsLeastWith c (a ∷ []) d → IsLeastWith d (b ∷ []) f → IsLeastWith c (a ∷ b ∷ []) f
two_with c d f a b g h = record {
  positive = h.positive;
  short = h.short;
  first = dvd_trans _ g.first h.first;
  over = ((over-scaled d f h.first (a ∷ []) g.over).0, h.over);
  least = λ m p u o. h.least m p (g.least m p u (o.0, tt)) o.1;
}

first_light : (s : Span) (m : ℕ) → IsLight m (s ∷ []) → nat_abs (numerator m (end_at Least s)) ≤ 2 ^ 63
first_light s m h = by _ h.least
  where
    by : (n : ℕ) → n + 0 ≤ 2 ^ 63 → n ≤ 2 ^ 63
    by n l = omega (arith, l)

second_light : (s : Span) (m : ℕ) → IsLight m (s ∷ []) → nat_abs (numerator m (end_at Greatest s)) ≤ 2 ^ 63
second_light s m h = by _ h.greatest
  where
    by : (n : ℕ) → n + 0 ≤ 2 ^ 63 → n ≤ 2 ^ 63
    by n l = omega (arith, l)

pub first_past : (c : ℕ) (s : Span) → IsPastWith c (end_at Least s) → ArePastWith c (s ∷ [])
first_past c s f m p u o l = f m p u o.0 l.short (first_light s m l)

pub second_past : (c d : ℕ) (s : Span) → IsLeastWith c (end_at Least s ∷ []) d → IsPastWith d (end_at Greatest s) → ArePastWith c (s ∷ [])
second_past c d s g f m p u o l = f m p (g.least m p u (o.0, tt)) o.1.0 l.short (second_light s m l)

-- ---- sums
pub end_heavy : (e : Option Number) (x : Past) (m : ℕ) (s : EndSum) → Err x ≡ exact_end e → 0 < m → m ≤ 2 ^ 63 → EndOver m e → 2 ^ 63 < s.sizes + nat_abs (numerator m e)
end_heavy e x m s h p l o = by (nat_abs (numerator m e)) (end_past e x h m p l o)
  where
    over_limit : (n : ℕ) → (n ≤ 2 ^ 63 → ⊥) → 2 ^ 63 < n
    over_limit n f = omega (arith, f)

    more : (m n : ℕ) → 2 ^ 63 < n → 2 ^ 63 < m + n
    more m n l = omega (arith, l)

    by : (n : ℕ) → (n ≤ 2 ^ 63 → ⊥) → 2 ^ 63 < s.sizes + n
    by n f = more s.sizes n (over_limit n f)
