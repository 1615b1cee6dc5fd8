-- A column at its other end in place of its own term, and products over a denominator.
use Rattle.std.proofs.Common.{◌≡◌, ℕ, zero, suc, ◌*◌, ◌/◌, ◌<◌, arith, mul-pos, ℤ, pos, ◌+ℤ◌, ◌*ℤ◌, neg_ℤ, List, [], ◌∷◌, ◌++◌, length, get_or, Option, Some, refl, sym, ap, ap₂, ◌∙◌, subst, Ok}
use Prim.Native.Nat.{◌∣◌}
use native.Mathlib.Nat.{dvd-mul_right}
use mathlib.Core.Quot.{sound}
use Rattle.fractions.specs.Ring.{ring, whole, v, num, ◌:*◌}
use Rattle.fractions.specs.Number.{Number, ◌+ℚ◌, ◌*ℚ◌, lift2}
use Rattle.fractions.specs.Lowest.{over_of, under_of, under_of_positive, fraction-shown, ratio, ratio-is}
use Rattle.kept_sums.specs.CommonSums.{IsCommonSum}
use Rattle.row_spans.specs.RowSums.{row_sum}
use Rattle.kept_sums.specs.KeptSides.{EndIs, IsNumerator, IsWith}
use Rattle.row_spans.specs.Spans.{no_span, span_at}
use Rattle.kept_sums.specs.declared.common.CommonSum.{CommonSum}
use Rattle.row_spans.specs.declared.span.Span.{Span}
use Rattle.kept_sums.proofs.Over.{of_number, at_d, is_over, sum_told, told_over}
use Rattle.kept_sums.proofs.Numerators.{rest_finite}

-- a ratio and a number that can be written over its denominator
ratio_with : (z : ℤ) (d : ℕ) (t : Number) → 0 < d → under_of t ∣ d → ratio (z +ℤ of_number d t) d ≡ ratio z d +ℚ t
ratio_with z d t h u =
    let q : Number = ratio z d in
    let o = told_over z d h in
    let e : q ≡ at_d z d h = ratio-is z d h in
    let v : under_of q ∣ d = subst (λ r. under_of r ∣ d) (sym e) o.0 in
    let n : of_number d q ≡ z = ap (of_number d) e ∙ o.1 in
    let s = sum_told d q t h v u in
    ratio-is (z +ℤ of_number d t) d h
    ∙ ap (λ x. at_d x d h) (sym (s.1 ∙ ap (λ x. x +ℤ of_number d t) n))
    ∙ sym (is_over d h (q +ℚ t) s.0)

pub turned_is : (a b : List (Option Number)) (s : CommonSum) (p t : Number) (rest n : ℤ) → IsCommonSum (a ++ Some p ∷ b) s → s.infinite ≡ 0 → under_of t ∣ s.denominator
    → rest ≡ s.total +ℤ neg_ℤ (of_number s.denominator p) → n ≡ rest +ℤ of_number s.denominator t → IsWith t (ratio n s.denominator) (row_sum (a ++ b))
turned_is a b s p t rest n h e k f g = (
  ratio rest s.denominator,
  rest_finite a b s p h e ∙ ap (λ z. Ok (Some (ratio z s.denominator))) (sym f),
  ap (λ z. ratio z s.denominator) g ∙ ratio_with rest s.denominator t h.positive k,
)

pub turned_told : (a b : List (Option Number)) (s : CommonSum) (e o : Option Number) (x y n : ℤ) → IsCommonSum (a ++ e ∷ b) s → s.infinite ≡ 0 → EndIs s.denominator e x → EndIs s.denominator o y
    → n ≡ (s.total +ℤ neg_ℤ x) +ℤ y → (t : Number) × (o ≡ Some t) × IsWith t (ratio n s.denominator) (row_sum (a ++ b))
turned_told a b s e o x y n h f own other g =
    let k : IsNumerator s.denominator own.0 x = own.2 in
    let l : IsNumerator s.denominator other.0 y = other.2 in (
      other.0,
      other.1,
      turned_is a b s own.0 other.0 (s.total +ℤ neg_ℤ x) n (subst (λ z. IsCommonSum (a ++ z ∷ b) s) own.1 h) f l.0 (ap (λ z. s.total +ℤ neg_ℤ z) k.1) (g ∙ ap (λ z. (s.total +ℤ neg_ℤ x) +ℤ z) l.1),
    )

-- ---- products over a denominator
parts_shown : (q : Number) → q ≡ at_d (over_of q) (under_of q) (under_of_positive q)
parts_shown q = sym (fraction-shown q)

product_shown : (m n : ℤ) (d e : ℕ) (h : 0 < d) (k : 0 < e) → at_d m d h *ℚ at_d n e k ≡ at_d (m *ℤ n) (d * e) (mul-pos h k)
unfolding ◌*ℚ◌ lift2
product_shown m n d e h k = sound (ring whole (m ∷ n ∷ pos (d * e) ∷ []) ((v 0 :* v 1) :* v 2) ((v 0 :* v 1) :* v 2) refl)

raised_shown : (n : ℤ) (d k : ℕ) (h : 0 < d) (l : 0 < k * d) → at_d n d h ≡ at_d (n *ℤ pos k) (k * d) l
raised_shown n d k h l = sound (ring whole (n ∷ pos k ∷ pos d ∷ []) (v 0 :* (v 1 :* v 2)) ((v 0 :* v 1) :* v 2) refl)

pub product_over : (a b : Number) (d k : ℕ) (z : ℤ) → 0 < d → k * (under_of a * under_of b) ≡ d → z ≡ (over_of a *ℤ over_of b) *ℤ pos k → (under_of (a *ℚ b) ∣ d) × (z ≡ of_number d (a *ℚ b))
product_over a b d k z h e f =
    let both : 0 < under_of a * under_of b = mul-pos (under_of_positive a) (under_of_positive b) in
    let l : 0 < k * (under_of a * under_of b) = subst (λ (n : ℕ). 0 < n) (sym e) h in
    let shown : a *ℚ b ≡ at_d z (k * (under_of a * under_of b)) l =
    ap₂ ◌*ℚ◌ (parts_shown a) (parts_shown b) ∙ product_shown (over_of a) (over_of b) (under_of a) (under_of b) (under_of_positive a) (under_of_positive b)
    ∙ raised_shown (over_of a *ℤ over_of b) (under_of a * under_of b) k both l ∙ ap (λ x. at_d x (k * (under_of a * under_of b)) l) (sym f) in
    let t = told_over z (k * (under_of a * under_of b)) l in
    subst (λ (n : ℕ). (under_of (a *ℚ b) ∣ n) × (z ≡ of_number n (a *ℚ b))) e
    (subst (λ q. under_of q ∣ k * (under_of a * under_of b)) (sym shown) t.0, sym (ap (of_number (k * (under_of a * under_of b))) shown ∙ t.1))

-- the same where the first denominator is the one over which both are written
pub product_over_first : (a b : Number) (d : ℕ) (z : ℤ) → 0 < d → under_of a ≡ d → under_of b ≡ 1 → z ≡ over_of a *ℤ over_of b → (under_of (a *ℚ b) ∣ d) × (z ≡ of_number d (a *ℚ b))
product_over_first a b d z h u o e =
    product_over a b d 1 z h (ap (λ (n : ℕ). 1 * (under_of a * n)) o ∙ once (under_of a) ∙ u) (e ∙ ring whole (over_of a ∷ over_of b ∷ []) (v 0 :* v 1) ((v 0 :* v 1) :* num (pos 1)) refl)
  where
    once : (m : ℕ) → 1 * (m * 1) ≡ m
    once m = omega arith

pub lowest_over_is : (q : Number) (d k : ℕ) (z : ℤ) → k * under_of q ≡ d → k ≡ d / under_of q → z ≡ over_of q *ℤ pos k → (under_of q ∣ d) × (z ≡ of_number d q)
lowest_over_is q d k z e f g = (subst (λ (n : ℕ). under_of q ∣ n) (turned k (under_of q) ∙ e) (dvd-mul_right (under_of q) k), g ∙ ap (λ (n : ℕ). over_of q *ℤ pos n) f)
  where
    turned : (m n : ℕ) → n * m ≡ m * n
    turned m n = omega arith

-- ---- what stands at a place
either : (ss : List Span) (k : ℕ) (d e : Span) → k < length ss → get_or ss k d ≡ get_or ss k e
either [] k d e l = absurd (omega (arith, l))
either (s ∷ ss) zero d e l = refl
either (s ∷ ss) (suc k) d e l = either ss k d e (omega (arith, l))

pub span_there : (ss : List Span) (k : ℕ) → k < length ss → span_at ss k ≡ get_or ss k (span_at ss k)
span_there ss k l = either ss k no_span (span_at ss k) l

pub span_read : (ss : List Span) (k : ℕ) (s : Span) → k < length ss → s ≡ get_or ss k s → s ≡ span_at ss k
span_read ss k s l e = e ∙ either ss k s no_span l
