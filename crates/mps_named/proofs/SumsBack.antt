-- A sum that has room, and the steps back from it.
use Rattle.std.proofs.Common.{◌≡◌, ℕ, ◌*◌, ◌/◌, ◌<◌, ◌≤◌, ◌^◌, ℤ, pos, ◌+ℤ◌, ◌*ℤ◌, neg_ℤ, nat_abs, [], ◌∷◌, sym, refl, ap, ap₂, ◌∙◌, subst, arith, mul_comm, mul-pos, int_div, mul-le-mul_left}
use Prim.Native.Nat.{◌∣◌}
use native.Mathlib.Nat.{dvd_trans, dvd-mul_right, div-mul_cancel, mul_assoc}
use Rattle.std.proofs.lemmas.Int.{unsigned_abs-mul}
use Rattle.std.proofs.Math.IntN.{+ℤ_comm}
use Rattle.fractions.specs.Ring.{ring, whole, v, ◌:+◌, ◌:*◌, inv}
use Rattle.fractions.specs.Number.{Number, rational, Fraction, fraction, minus, ◌+ℚ◌, +ℚ_comm, neg_ℚ, same_times}
use Rattle.fractions.specs.Gcd.{gcd, gauss, gcd-IsGcd, coprime_comm, coprime_parts}
use Rattle.fractions.specs.Divisors.{div-exact, nat_abs-neg, gcd_pos_l, gcd_pos_r, quotient_pos}
use Rattle.fractions.specs.Lowest.{Fits, shown, fraction-shown, of_lowest, over_of, under_of, under_of_positive, coprime_of}
use Rattle.fractions.specs.FracWords.{SumFits}
use Rattle.fractions.proofs.SumSteps.{lowest_sum, sum_is}

-- ---- the parts of a sum
-- the numerators over the least common denominator
abbrev over_left : Number → Number → ℤ
over_left p q = over_of p *ℤ pos (under_of q / gcd (under_of p) (under_of q))

abbrev over_right : Number → Number → ℤ
over_right p q = over_of q *ℤ pos (under_of p / gcd (under_of p) (under_of q))

abbrev shared : Number → Number → ℕ
shared p q = gcd (nat_abs (over_left p q +ℤ over_right p q)) (gcd (under_of p) (under_of q))

pub record SumParts (p q : Number) : Type 0 where
  pub positive : 0 < shared p q
  pub over : over_of (p +ℚ q) *ℤ pos (shared p q) ≡ over_left p q +ℤ over_right p q
  pub under : under_of (p +ℚ q) ≡ (under_of p / gcd (under_of p) (under_of q)) * (under_of q / shared p q)

pub sum_parts : (p q : Number) → SumParts p q
sum_parts p q =
    let b : ℕ = under_of p in
    let d : ℕ = under_of q in
    let pb : 0 < b = under_of_positive p in
    let pd : 0 < d = under_of_positive q in
    let g : ℕ = gcd b d in
    let pg : 0 < g = gcd_pos_l b d pb in
    let t : ℤ = over_left p q +ℤ over_right p q in
    let h : ℕ = shared p q in
    let ph : 0 < h = gcd_pos_r (nat_abs t) g pg in
    let n : ℤ = int_div t (pos h) in
    let en : n *ℤ pos h ≡ t = div-exact t h (gcd-IsGcd (nat_abs t) g).0 in
    let gb : g ∣ b = (gcd-IsGcd b d).0 in
    let gd : g ∣ d = (gcd-IsGcd b d).1 in
    let hd : h ∣ d = dvd_trans _ (gcd-IsGcd (nat_abs t) g).1 gd in
    let r : 0 < (b / g) * (d / h) = mul-pos (quotient_pos g b gb pb) (quotient_pos h d hd pd) in
    let x : Fraction = record { over = n; under = (b / g) * (d / h); positive = r } in
    let value : fraction x ≡ p +ℚ q =
    sum_is (over_of p) (over_of q) n b d (b / g) (d / g) g h (d / h) pb pd r (sym (div-mul_cancel g gb)) (sym (div-mul_cancel g gd)) (sym (div-mul_cancel h hd)) en
    ∙ ap₂ ◌+ℚ◌ (fraction-shown p) (fraction-shown q) in
    let low = of_lowest x (lowest_sum (over_of p) (over_of q) n b d pb pd (coprime_of p) (coprime_of q) en) in
    record {
      positive = ph;
      over = ap (λ z. z *ℤ pos h) (sym (ap over_of value) ∙ low.0) ∙ en;
      under = sym (ap under_of value) ∙ low.1;
    }

-- ---- the parts of a negative
pub record NegativeParts (q : Number) : Type 0 where
  pub over : over_of (neg_ℚ q) ≡ neg_ℤ (over_of q)
  pub under : under_of (neg_ℚ q) ≡ under_of q

pub negative_parts : (q : Number) → NegativeParts q
unfolding neg_ℚ
negative_parts q =
    let low = of_lowest (minus (shown q)) (ap (λ (n : ℕ). gcd n (under_of q)) (nat_abs-neg (over_of q)) ∙ coprime_of q) in
    record { over = ap (λ (r : Number). over_of (neg_ℚ r)) (sym (fraction-shown q)) ∙ low.0; under = ap (λ (r : Number). under_of (neg_ℚ r)) (sym (fraction-shown q)) ∙ low.1 }

-- ---- a common multiple of the denominators that leaves room
pub smaller : (z : ℤ) (w n : ℕ) → 0 < w → nat_abs (z *ℤ pos w) < n → nat_abs z < n
smaller z w n h l = omega (arith, unsigned_abs-mul z (pos w), mul-le-mul_left (nat_abs z) (let o : 1 ≤ w = omega (arith, h) in o), l)

-- a multiple of the denominators is one of their least multiple
pub record Widened (b d x y : ℕ) : Type 0 where
  pub factor : ℕ
  pub positive : 0 < factor
  pub left : x ≡ (d / gcd b d) * factor
  pub right : y ≡ (b / gcd b d) * factor

widened : (b d x y : ℕ) → 0 < b → 0 < d → 0 < x → b * x ≡ d * y → Widened b d x y
widened b d x y pb pd px e =
    let g : ℕ = gcd b d in
    let pg : 0 < g = gcd_pos_l b d pb in
    let b' : ℕ = b / g in
    let d' : ℕ = d / g in
    let eb : b' * g ≡ b = div-mul_cancel g (gcd-IsGcd b d).0 in
    let ed : d' * g ≡ d = div-mul_cancel g (gcd-IsGcd b d).1 in
    let pd' : 0 < d' = quotient_pos g d (gcd-IsGcd b d).1 pd in
    let crossed : b' * x ≡ d' * y = same_times (b' * x) (d' * y) g pg (rearranged b' x g ∙ ap (λ (n : ℕ). n * x) eb ∙ e ∙ ap (λ (n : ℕ). n * y) (sym ed) ∙ sym (rearranged d' y g)) in
    let divides : d' ∣ x = gauss d' b' x (coprime_comm b' d' (coprime_parts b d pg)) (subst (λ n. d' ∣ n) (sym crossed) (dvd-mul_right d' y)) in
    let w : ℕ = x / d' in
    let ew : w * d' ≡ x = div-mul_cancel d' divides in
    record {
      factor = w;
      positive = quotient_pos d' x divides px;
      left = sym ew ∙ mul_comm w d';
      right = same_times y (b' * w) d' pd' (mul_comm y d' ∙ sym crossed ∙ ap (λ (n : ℕ). b' * n) (sym ew) ∙ sym (mul_assoc b' w d'));
    }
  where
    rearranged : (m n k : ℕ) → m * n * k ≡ m * k * n
    rearranged m n k = mul_assoc m n k ∙ ap (λ (i : ℕ). m * i) (mul_comm n k) ∙ sym (mul_assoc m k n)

pub fits_by : (p q : Number) (x y : ℕ) → 0 < x → under_of p * x ≡ under_of q * y
    → nat_abs (over_of p *ℤ pos x) < 2 ^ 127 → nat_abs (over_of q *ℤ pos y) < 2 ^ 127 → nat_abs (over_of p *ℤ pos x +ℤ over_of q *ℤ pos y) < 2 ^ 127
    → under_of (p +ℚ q) < 2 ^ 127 → SumFits p q
fits_by p q x y px e l r s u =
    let b : ℕ = under_of p in
    let d : ℕ = under_of q in
    let wide = widened b d x y (under_of_positive p) (under_of_positive q) px e in
    let w : ℕ = wide.factor in
    let el : over_of p *ℤ pos x ≡ over_left p q *ℤ pos w = ap (λ (n : ℕ). over_of p *ℤ pos n) wide.left ∙ apart (over_of p) (d / gcd b d) w in
    let er : over_of q *ℤ pos y ≡ over_right p q *ℤ pos w = ap (λ (n : ℕ). over_of q *ℤ pos n) wide.right ∙ apart (over_of q) (b / gcd b d) w in
    let es : over_of p *ℤ pos x +ℤ over_of q *ℤ pos y ≡ (over_left p q +ℤ over_right p q) *ℤ pos w =
    ap₂ ◌+ℤ◌ el er ∙ ring whole (over_left p q ∷ over_right p q ∷ pos w ∷ []) (v 0 :* v 2 :+ v 1 :* v 2) ((v 0 :+ v 1) :* v 2) refl in
    record {
      left = smaller (over_left p q) w (2 ^ 127) wide.positive (subst (λ z. nat_abs z < 2 ^ 127) el l);
      right = smaller (over_right p q) w (2 ^ 127) wide.positive (subst (λ z. nat_abs z < 2 ^ 127) er r);
      sum = smaller (over_left p q +ℤ over_right p q) w (2 ^ 127) wide.positive (subst (λ z. nat_abs z < 2 ^ 127) es s);
      under = subst (λ (n : ℕ). n < 2 ^ 127) (sum_parts p q).under u;
    }
  where
    apart : (a : ℤ) (m n : ℕ) → a *ℤ pos (m * n) ≡ a *ℤ pos m *ℤ pos n
    apart a m n = ring whole (a ∷ pos m ∷ pos n ∷ []) (v 0 :* (v 1 :* v 2)) (v 0 :* v 1 :* v 2) refl

-- ---- what follows of the room of sums
pub sum_fits-under : (p q : Number) → SumFits p q → under_of (p +ℚ q) < 2 ^ 127
sum_fits-under p q h = subst (λ (n : ℕ). n < 2 ^ 127) (sym (sum_parts p q).under) h.under

pub sum-Fits : (p q : Number) → SumFits p q → Fits (p +ℚ q)
sum-Fits p q h = record {
  over = smaller (over_of (p +ℚ q)) (shared p q) (2 ^ 127) (sum_parts p q).positive (subst (λ z. nat_abs z < 2 ^ 127) (sym (sum_parts p q).over) h.sum);
  under = sum_fits-under p q h;
}

crossing : (b d : ℕ) → b * (d / gcd b d) ≡ d * (b / gcd b d)
crossing b d =
    let g : ℕ = gcd b d in
    ap (λ (n : ℕ). n * (d / g)) (sym (div-mul_cancel g (gcd-IsGcd b d).0))
    ∙ mul_assoc (b / g) g (d / g)
    ∙ ap (λ (n : ℕ). b / g * n) (mul_comm g (d / g) ∙ div-mul_cancel g (gcd-IsGcd b d).1)
    ∙ mul_comm (b / g) d

pub sum-turned : (p q : Number) → SumFits p q → SumFits q p
sum-turned p q h =
    let b : ℕ = under_of p in
    let d : ℕ = under_of q in
    fits_by q p (b / gcd b d) (d / gcd b d) (quotient_pos (gcd b d) b (gcd-IsGcd b d).0 (under_of_positive p)) (sym (crossing b d)) h.right h.left
    (subst (λ z. nat_abs z < 2 ^ 127) (+ℤ_comm (over_left p q) (over_right p q)) h.sum)
    (subst (λ (r : Number). under_of r < 2 ^ 127) (+ℚ_comm p q) (sum_fits-under p q h))

-- from a sum back to the first number
pub sum-back : (p q : Number) → Fits p → SumFits p q → SumFits (p +ℚ q) (neg_ℚ q)
sum-back p q f h =
    let b : ℕ = under_of p in
    let d : ℕ = under_of q in
    let b' : ℕ = b / gcd b d in
    let parts = sum_parts p q in
    let turned = negative_parts q in
    let k : ℕ = shared p q in
    let kd : k ∣ d = dvd_trans _ (gcd-IsGcd (nat_abs (over_left p q +ℤ over_right p q)) (gcd b d)).1 (gcd-IsGcd b d).1 in
    let e : under_of (p +ℚ q) * k ≡ under_of (neg_ℚ q) * b' =
    ap (λ (n : ℕ). n * k) parts.under ∙ mul_assoc b' (d / k) k ∙ ap (λ (n : ℕ). b' * n) (div-mul_cancel k kd) ∙ mul_comm b' d ∙ ap (λ (n : ℕ). n * b') (sym turned.under) in
    let er : over_of (neg_ℚ q) *ℤ pos b' ≡ neg_ℤ (over_right p q) =
    ap (λ z. z *ℤ pos b') turned.over ∙ ring whole (over_of q ∷ pos b' ∷ []) (inv (v 0) :* v 1) (inv (v 0 :* v 1)) refl in
    let es : over_of (p +ℚ q) *ℤ pos k +ℤ over_of (neg_ℚ q) *ℤ pos b' ≡ over_left p q =
    ap₂ ◌+ℤ◌ parts.over er ∙ ring whole (over_left p q ∷ over_right p q ∷ []) (v 0 :+ v 1 :+ inv (v 1)) (v 0) refl in
    let value : p ≡ p +ℚ q +ℚ neg_ℚ q = ring rational (p ∷ q ∷ []) (v 0) (v 0 :+ v 1 :+ inv (v 1)) refl in
    fits_by (p +ℚ q) (neg_ℚ q) k b' parts.positive e
    (subst (λ z. nat_abs z < 2 ^ 127) (sym parts.over) h.sum)
    (subst (λ (n : ℕ). n < 2 ^ 127) (sym (ap nat_abs er ∙ nat_abs-neg (over_right p q))) h.right)
    (subst (λ z. nat_abs z < 2 ^ 127) (sym es) h.left)
    (subst (λ (r : Number). under_of r < 2 ^ 127) value f.under)

pub negative-Fits : (q : Number) → Fits q → Fits (neg_ℚ q)
negative-Fits q h = record {
  over = subst (λ (n : ℕ). n < 2 ^ 127) (sym (ap nat_abs (negative_parts q).over ∙ nat_abs-neg (over_of q))) h.over;
  under = subst (λ (n : ℕ). n < 2 ^ 127) (sym (negative_parts q).under) h.under;
}
