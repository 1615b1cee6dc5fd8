-- Laws of floors, ceilings and whole numbers.
use Rattle.std.proofs.Common.{◌≡◌, ℕ, ◌+◌, ◌*◌, ◌/◌, ◌%◌, ◌<◌, ℤ, pos, negsuc, ◌*ℤ◌, ◌+ℤ◌, neg_ℤ, ◌≤ℤ◌, ◌<ℤ◌, true, IsTrue, nat_eq, ◌↔◌, ◌⊎◌, inl, inr, [], ◌∷◌, sym, refl, ap, ap₂, ◌∙◌, subst, arith, div-add-mod', mod-lt, lit<, nat_abs, ◌^◌}
use Rattle.std.proofs.lemmas.Int.{ints}
use Rattle.std.proofs.lemmas.Bool.{eq-eqb}
use borrow.Author.Differences.{product_is, below_in}
use Rattle.fractions.specs.WholeLaws.{up-*, down-*, up-neg, down-neg}
use Rattle.fractions.specs.Ring.{ring, whole, v, num, ◌:*◌, inv}
use Rattle.fractions.specs.Number.{Number, rational, fraction, fraction-by, ◌+ℚ◌, ◌*ℚ◌, neg_ℚ, of_ℤ, of_ℤ-+ℤ, of_ℤ-*ℤ, of_ℤ-neg_ℤ, integral, one_ℚ}
use Rattle.fractions.specs.Lowest.{over_of, under_of, under_of_positive, shown, fraction-shown, of_lowest, ratio, ratio-is, IsLowest, over_of-ratio, under_of-ratio}
use Rattle.fractions.specs.Gcd.{coprime_by}
use Rattle.fractions.specs.Order.{◌≤ℚ◌, ◌<ℚ◌, ≤ℚ_refl, ≤ℚ_cases, ≤ℚ_trans, ≤ℚ-cross}
use Rattle.fractions.specs.Floor.{floor_by, floor_of, ceil_of, IsWhole, is_whole}
use Rattle.fractions.specs.Signs.{≤ℚ-same, neg_ℚ-≤}

floor_low : (n : ℤ) (d : ℕ) → 0 < d → (floor_by n d *ℤ pos d) ≤ℤ n
floor_low (pos n) d p = let e : n / d * d + n % d ≡ n = div-add-mod' n d in omega (arith, ints)
floor_low (negsuc n) d p = let e : n / d * d + n % d ≡ n = div-add-mod' n d in let l : n % d < d = mod-lt n p in omega (arith, ints, product_is (negsuc (n / d)) (pos d))

floor_high : (n : ℤ) (d : ℕ) → 0 < d → n <ℤ ((floor_by n d +ℤ pos 1) *ℤ pos d)
floor_high (pos n) d p = let e : n / d * d + n % d ≡ n = div-add-mod' n d in let l : n % d < d = mod-lt n p in omega (arith, ints)
floor_high (negsuc n) d p =
    let e : n / d * d + n % d ≡ n = div-add-mod' n d in
    subst (λ z. negsuc n <ℤ (z *ℤ pos d)) (sym (less_one (n / d))) (below_in (negsuc n) (neg_ℤ (pos (n / d)) *ℤ pos d) (simp (up-*, down-*, up-neg, down-neg) (omega arith)))
  where
    less_one : (k : ℕ) → negsuc k +ℤ pos 1 ≡ neg_ℤ (pos k)
    less_one k = omega (arith, ints)

-- floor ≤ q < floor + 1
pub floor_of-≤ : (q : Number) → of_ℤ (floor_of q) ≤ℚ q
unfolding floor_of of_ℤ
floor_of-≤ q = subst (λ p. of_ℤ (floor_of q) ≤ℚ p) (fraction-shown q)
    ((≤ℚ-cross (integral (floor_by (over_of q) (under_of q))) (shown q)).1
    (subst (λ z. (floor_by (over_of q) (under_of q) *ℤ pos (under_of q)) ≤ℤ z) (ring whole (over_of q ∷ []) (v 0) (v 0 :* num (pos 1)) refl) (floor_low (over_of q) (under_of q) (under_of_positive q))))

below-not : (a b : ℤ) → a <ℤ b → b ≤ℤ a → ⊥
below-not a b h k = omega (arith, ints)

pub <-floor_of : (q : Number) → of_ℤ (floor_of q +ℤ pos 1) ≤ℚ q → ⊥
unfolding floor_of of_ℤ
<-floor_of q h = below-not _ _ (floor_high (over_of q) (under_of q) (under_of_positive q))
    (subst (λ z. ((floor_by (over_of q) (under_of q) +ℤ pos 1) *ℤ pos (under_of q)) ≤ℤ z) (ring whole (over_of q ∷ []) (v 0 :* num (pos 1)) (v 0) refl)
    ((≤ℚ-cross (integral (floor_by (over_of q) (under_of q) +ℤ pos 1)) (shown q)).0 (subst (λ p. of_ℤ (floor_of q +ℤ pos 1) ≤ℚ p) (sym (fraction-shown q)) h)))

pub of_ℤ-ratio : (z : ℤ) → ratio z 1 ≡ of_ℤ z
unfolding of_ℤ
of_ℤ-ratio z = ratio-is z 1 (lit< tt) ∙ fraction-by (record { over = z; under = 1; positive = lit< tt }) (integral z) refl refl

pub floor_of-ratio : (n : ℤ) (d : ℕ) → IsLowest n d → floor_of (ratio n d) ≡ floor_by n d
unfolding floor_of
floor_of-ratio n d h = ap₂ floor_by (over_of-ratio n d h) (under_of-ratio n d h)

pub IsLowest-whole : (z : ℤ) → nat_abs z < 2 ^ 127 → IsLowest z 1
IsLowest-whole z h = record { over_fits = h; under_fits = lit< tt; positive = lit< tt; coprime = coprime_by (nat_abs z) 1 (λ d p q. q) }

-- ---- whole numbers among the others
pub of_ℤ-≤ : (a b : ℤ) → (of_ℤ a ≤ℚ of_ℤ b) ↔ (a ≤ℤ b)
unfolding of_ℤ
of_ℤ-≤ a b = (
  λ h. subst (λ z. z ≤ℤ b) (one a) (subst (λ z. (a *ℤ pos 1) ≤ℤ z) (one b) ((≤ℚ-cross (integral a) (integral b)).0 h)),
  λ h. (≤ℚ-cross (integral a) (integral b)).1 (subst (λ z. z ≤ℤ (b *ℤ pos 1)) (sym (one a)) (subst (λ z. a ≤ℤ z) (sym (one b)) h)),
)
  where
    one : (z : ℤ) → z *ℤ pos 1 ≡ z
    one z = ring whole (z ∷ []) (v 0 :* num (pos 1)) (v 0) refl

pub of_ℤ_same : (a b : ℤ) → of_ℤ a ≡ of_ℤ b → a ≡ b
of_ℤ_same a b e = omega (arith, ints, (of_ℤ-≤ a b).0 (≤ℚ-same e), (of_ℤ-≤ b a).0 (≤ℚ-same (sym e)))

-- q is below its floor and 1
pub floor_of-< : (q : Number) → q <ℚ (of_ℤ (floor_of q) +ℚ one_ℚ)
floor_of-< q = elim (≤ℚ_cases (of_ℤ (floor_of q) +ℚ one_ℚ) q) [
  | inl h ↦ absurd (<-floor_of q (subst (λ z. z ≤ℚ q) (sym (of_ℤ-+ℤ (floor_of q) (pos 1))) h))
  | inr h ↦ h
]

-- a whole number that is at most q is at most its floor
pub floor_of_greatest : (q : Number) (z : ℤ) → of_ℤ z ≤ℚ q → z ≤ℤ floor_of q
floor_of_greatest q z h = by (whole_cases z (floor_of q))
  where
    whole_cases : (a b : ℤ) → (a ≤ℤ b) ⊎ ((b +ℤ pos 1) ≤ℤ a)
    whole_cases a b = grind (arith, ints)

    by : (z ≤ℤ floor_of q) ⊎ ((floor_of q +ℤ pos 1) ≤ℤ z) → z ≤ℤ floor_of q
    by (inl k) = k
    by (inr k) = absurd (<-floor_of q (≤ℚ_trans ((of_ℤ-≤ (floor_of q +ℤ pos 1) z).1 k) h))

twice : (p : Number) → neg_ℚ (neg_ℚ p) ≡ p
twice p = ring rational (p ∷ []) (inv (inv (v 0))) (v 0) refl

-- q ≤ ceil < q + 1
pub ≤-ceil_of : (q : Number) → q ≤ℚ of_ℤ (ceil_of q)
unfolding ceil_of
≤-ceil_of q = subst (λ z. z ≤ℚ of_ℤ (neg_ℤ (floor_of (neg_ℚ q)))) (twice q) (subst (λ z. neg_ℚ (neg_ℚ q) ≤ℚ z) (sym (of_ℤ-neg_ℤ _)) (neg_ℚ-≤ (floor_of-≤ (neg_ℚ q))))

-- a whole number that is at least q is at least its ceiling
pub ceil_of_least : (q : Number) (z : ℤ) → q ≤ℚ of_ℤ z → ceil_of q ≤ℤ z
unfolding ceil_of
ceil_of_least q z h = turned z (floor_of (neg_ℚ q)) (floor_of_greatest (neg_ℚ q) (neg_ℤ z) (subst (λ p. p ≤ℚ neg_ℚ q) (sym (of_ℤ-neg_ℤ z)) (neg_ℚ-≤ h)))
  where
    turned : (z f : ℤ) → neg_ℤ z ≤ℤ f → neg_ℤ f ≤ℤ z
    turned z f h = omega (arith, ints)

-- ---- a number is whole where its denominator is 1
one_under : (n : ℤ) (d : ℕ) (p : 0 < d) → d ≡ 1 → fraction (record { over = n; under = d; positive = p }) ≡ of_ℤ n
unfolding of_ℤ
one_under n d p e = fraction-by (record { over = n; under = d; positive = p }) (integral n) refl e

under_of_whole : (z : ℤ) → under_of (ratio z 1) ≡ 1
under_of_whole z = ap under_of (ratio-is z 1 (lit< tt)) ∙ (of_lowest (record { over = z; under = 1; positive = lit< tt }) (coprime_by (nat_abs z) 1 (λ d p q. q))).1

pub is_whole-is : (q : Number) → IsTrue (is_whole q) ↔ IsWhole q
is_whole-is q = (
  λ e. record { whole = over_of q; same = sym (fraction-shown q) ∙ one_under (over_of q) (under_of q) (under_of_positive q) (eq-of (under_of q) e) },
  λ w. eq-eqb (under_of q) 1 (ap under_of (w.same ∙ sym (of_ℤ-ratio w.whole)) ∙ under_of_whole w.whole),
)
  where
    eq-of : (n : ℕ) → nat_eq n 1 ≡ true → n ≡ 1
    eq-of n e = grind arith

pub IsWhole-+ℚ : {p q : Number} → IsWhole p → IsWhole q → IsWhole (p +ℚ q)
IsWhole-+ℚ a b = record { whole = a.whole +ℤ b.whole; same = ap₂ ◌+ℚ◌ a.same b.same ∙ sym (of_ℤ-+ℤ a.whole b.whole) }

pub IsWhole-*ℚ : {p q : Number} → IsWhole p → IsWhole q → IsWhole (p *ℚ q)
IsWhole-*ℚ a b = record { whole = a.whole *ℤ b.whole; same = ap₂ ◌*ℚ◌ a.same b.same ∙ sym (of_ℤ-*ℤ a.whole b.whole) }

pub IsWhole-neg_ℚ : {p : Number} → IsWhole p → IsWhole (neg_ℚ p)
IsWhole-neg_ℚ a = record { whole = neg_ℤ a.whole; same = ap neg_ℚ a.same ∙ sym (of_ℤ-neg_ℤ a.whole) }

-- the floor of a whole number is the number
pub floor_of-of_ℤ : (z : ℤ) → floor_of (of_ℤ z) ≡ z
floor_of-of_ℤ z = omega (arith, ints, floor_of_greatest (of_ℤ z) z (≤ℚ_refl (of_ℤ z)), (of_ℤ-≤ (floor_of (of_ℤ z)) z).0 (floor_of-≤ (of_ℤ z)))

pub floor_of_whole : {q : Number} → IsWhole q → of_ℤ (floor_of q) ≡ q
floor_of_whole a = ap (λ z. of_ℤ (floor_of z)) a.same ∙ ap of_ℤ (floor_of-of_ℤ a.whole) ∙ sym a.same
