-- The order of numbers, by the sign of a difference; that it is by cross multiplication; and a way to prove linear inequalities.
use Rattle.std.proofs.Common.{◌≡◌, ℕ, zero, suc, ℤ, pos, negsuc, ◌+ℤ◌, ◌*ℤ◌, ◌-ℤ◌, neg_ℤ, ◌≤ℤ◌, Bool, true, false, T, not, [], ◌∷◌, sym, refl, ap, ◌∙◌, subst, arith, ◌↔◌, ◌⊎◌, inl, inr}
use Rattle.std.proofs.lemmas.Int.{ints}
use lib.Signed.{non_neg}
use lib.Dec.{T_prop}
use mathlib.Core.Bool.{Bool-set}
use Rattle.std.proofs.Math.IntN.{zero-*ℤ}
use mathlib.Core.Quot.{lift, ind, sound}
use Rattle.fractions.specs.Ring.{ring, whole, v, num, ◌:+◌, ◌:-◌, ◌:*◌, inv}
use Rattle.fractions.specs.Number.{Number, Number-set, Fraction, fraction, Same, rational, ◌+ℚ◌, ◌-ℚ◌, ◌*ℚ◌, neg_ℚ, of_ℤ, lift2, non_neg-times}

pub non_neg-same : (x y : Fraction) → Same x y → non_neg x.over ≡ non_neg y.over
non_neg-same x y e = sym (non_neg-times x.over y.under y.positive) ∙ ap non_neg e ∙ non_neg-times y.over x.under x.positive

unfoldable pub non_neg_ℚ : Number → Bool
non_neg_ℚ p = lift {r = Same} Bool-set (λ x. non_neg x.over) non_neg-same p

infix 50 ◌≤ℚ◌ ◌<ℚ◌
pub record ◌≤ℚ◌ (p q : Number) : Type 0 where
  pub le : T (non_neg_ℚ (q -ℚ p))

pub record ◌<ℚ◌ (p q : Number) : Type 0 where
  pub lt : T (not (non_neg_ℚ (p -ℚ q)))

-- ---- the cone of numbers that are not negative
sum_ℤ : (a c : ℤ) (b d : ℕ) → T (non_neg a) → T (non_neg c) → T (non_neg (a *ℤ pos d +ℤ c *ℤ pos b))
sum_ℤ (pos m) (pos n) b d s t = tt
sum_ℤ (pos m) (negsuc n) b d s t = absurd t
sum_ℤ (negsuc m) c b d s t = absurd s

product_ℤ : (a c : ℤ) → T (non_neg a) → T (non_neg c) → T (non_neg (a *ℤ c))
product_ℤ (pos m) (pos n) s t = tt
product_ℤ (pos m) (negsuc n) s t = absurd t
product_ℤ (negsuc m) c s t = absurd s

zero_ℤ : (a : ℤ) → T (non_neg a) → T (non_neg (neg_ℤ a)) → a ≡ pos 0
zero_ℤ (pos zero) s t = refl
zero_ℤ (pos (suc n)) s t = absurd t
zero_ℤ (negsuc n) s t = absurd s

other_ℤ : (a : ℤ) → T (not (non_neg a)) → T (non_neg (neg_ℤ a))
other_ℤ (pos n) t = absurd t
other_ℤ (negsuc n) t = tt

pub non_neg-+ℚ : (p q : Number) → T (non_neg_ℚ p) → T (non_neg_ℚ q) → T (non_neg_ℚ (p +ℚ q))
unfolding non_neg_ℚ ◌+ℚ◌ lift2
non_neg-+ℚ = ind {r = Same} {β = λ p. (q : Number) → T (non_neg_ℚ p) → T (non_neg_ℚ q) → T (non_neg_ℚ (p +ℚ q))} (λ p. hlevel (T_prop))
    (λ x. ind {r = Same} {β = λ q. T (non_neg x.over) → T (non_neg_ℚ q) → T (non_neg_ℚ (fraction x +ℚ q))} (λ q. hlevel (T_prop)) (λ y. sum_ℤ x.over y.over x.under y.under))

pub non_neg-*ℚ : (p q : Number) → T (non_neg_ℚ p) → T (non_neg_ℚ q) → T (non_neg_ℚ (p *ℚ q))
unfolding non_neg_ℚ ◌*ℚ◌ lift2
non_neg-*ℚ = ind {r = Same} {β = λ p. (q : Number) → T (non_neg_ℚ p) → T (non_neg_ℚ q) → T (non_neg_ℚ (p *ℚ q))} (λ p. hlevel (T_prop))
    (λ x. ind {r = Same} {β = λ q. T (non_neg x.over) → T (non_neg_ℚ q) → T (non_neg_ℚ (fraction x *ℚ q))} (λ q. hlevel (T_prop)) (λ y. product_ℤ x.over y.over))

pub zero_of : (p : Number) → T (non_neg_ℚ p) → T (non_neg_ℚ (neg_ℚ p)) → p ≡ of_ℤ (pos 0)
unfolding non_neg_ℚ neg_ℚ of_ℤ
zero_of = ind {r = Same} {β = λ p. T (non_neg_ℚ p) → T (non_neg_ℚ (neg_ℚ p)) → p ≡ of_ℤ (pos 0)} (λ p. hlevel (T_prop, Number-set))
    (λ x s t. sound (ap (λ z. z *ℤ pos 1) (zero_ℤ x.over s t) ∙ sym (zero-*ℤ (pos x.under))))

pub other_of : (p : Number) → T (not (non_neg_ℚ p)) → T (non_neg_ℚ (neg_ℚ p))
unfolding non_neg_ℚ neg_ℚ
other_of = ind {r = Same} {β = λ p. T (not (non_neg_ℚ p)) → T (non_neg_ℚ (neg_ℚ p))} (λ p. hlevel (T_prop)) (λ x. other_ℤ x.over)

pub non_neg-of_ℤ : (z : ℤ) → non_neg_ℚ (of_ℤ z) ≡ non_neg z
unfolding non_neg_ℚ of_ℤ
non_neg-of_ℤ z = refl

-- ---- the laws of the order
pub ≤ℚ-by : (p q r s : Number) → q -ℚ p ≡ s -ℚ r → p ≤ℚ q → r ≤ℚ s
≤ℚ-by p q r s e h = record { le = subst (λ d. T (non_neg_ℚ d)) e h.le }

pub ≤ℚ_refl : (p : Number) → p ≤ℚ p
≤ℚ_refl p = record { le = subst (λ d. T (non_neg_ℚ d)) (ring rational (p ∷ []) (num (pos 0)) (v 0 :- v 0) refl) (subst T (sym (non_neg-of_ℤ (pos 0))) tt) }

-- two inequalities added
pub ≤ℚ-+ℚ : {p q r s : Number} → p ≤ℚ q → r ≤ℚ s → (p +ℚ r) ≤ℚ (q +ℚ s)
≤ℚ-+ℚ {p} {q} {r} {s} h k = record { le = subst (λ d. T (non_neg_ℚ d)) (ring rational (p ∷ q ∷ r ∷ s ∷ []) ((v 1 :- v 0) :+ (v 3 :- v 2)) ((v 1 :+ v 3) :- (v 0 :+ v 2)) refl) (non_neg-+ℚ (q -ℚ p) (s -ℚ r) h.le k.le) }

pub ≤ℚ_trans : {p q r : Number} → p ≤ℚ q → q ≤ℚ r → p ≤ℚ r
≤ℚ_trans {p} {q} {r} h k = ≤ℚ-by (p +ℚ q) (q +ℚ r) p r (ring rational (p ∷ q ∷ r ∷ []) ((v 1 :+ v 2) :- (v 0 :+ v 1)) (v 2 :- v 0) refl) (≤ℚ-+ℚ h k)

pub ≤ℚ_antisym : {p q : Number} → p ≤ℚ q → q ≤ℚ p → p ≡ q
≤ℚ_antisym {p} {q} h k =
    ring rational (p ∷ q ∷ []) (v 0) (v 1 :- (v 1 :- v 0)) refl
    ∙ ap (λ d. q -ℚ d) (zero_of (q -ℚ p) h.le (subst (λ d. T (non_neg_ℚ d)) (ring rational (p ∷ q ∷ []) (v 0 :- v 1) (inv (v 1 :- v 0)) refl) k.le))
    ∙ ring rational (q ∷ []) (v 0 :- num (pos 0)) (v 0) refl

-- an inequality times a number that is not negative
pub ≤ℚ-*ℚ : {p q : Number} (c : Number) → of_ℤ (pos 0) ≤ℚ c → p ≤ℚ q → (c *ℚ p) ≤ℚ (c *ℚ q)
≤ℚ-*ℚ {p} {q} c h k = record { le = subst (λ d. T (non_neg_ℚ d)) (ring rational (p ∷ q ∷ c ∷ []) ((v 2 :- num (pos 0)) :* (v 1 :- v 0)) (v 2 :* v 1 :- v 2 :* v 0) refl) (non_neg-*ℚ (c -ℚ of_ℤ (pos 0)) (q -ℚ p) h.le k.le) }

pub ≤ℚ_cases : (p q : Number) → (p ≤ℚ q) ⊎ (q <ℚ p)
≤ℚ_cases p q = by (non_neg_ℚ (q -ℚ p)) refl
  where
    by : (b : Bool) → non_neg_ℚ (q -ℚ p) ≡ b → (p ≤ℚ q) ⊎ (q <ℚ p)
    by true e = inl (record { le = subst T (sym e) tt })
    by false e = inr (record { lt = subst (λ (t : Bool). T (not t)) (sym e) tt })

pub <ℚ-≤ℚ : {p q : Number} → p <ℚ q → p ≤ℚ q
<ℚ-≤ℚ {p} {q} h = record { le = subst (λ d. T (non_neg_ℚ d)) (ring rational (p ∷ q ∷ []) (inv (v 0 :- v 1)) (v 1 :- v 0) refl) (other_of (p -ℚ q) h.lt) }

T_clash : (b : Bool) → T b → T (not b) → ⊥
T_clash true s t = t
T_clash false s t = s

pub <ℚ-not : {p q : Number} → p <ℚ q → q ≤ℚ p → ⊥
<ℚ-not {p} {q} h k = T_clash (non_neg_ℚ (p -ℚ q)) k.le h.lt

-- ---- by cross multiplication
pub ≤ℚ-cross : (x y : Fraction) → (fraction x ≤ℚ fraction y) ↔ ((x.over *ℤ pos y.under) ≤ℤ (y.over *ℤ pos x.under))
unfolding non_neg_ℚ neg_ℚ ◌+ℚ◌ lift2
≤ℚ-cross x y = (λ h. to (x.over *ℤ pos y.under) (y.over *ℤ pos x.under) (subst (λ z. T (non_neg z)) (step x.over (pos y.under) y.over (pos x.under)) h.le), λ h. record { le = subst (λ z. T (non_neg z)) (sym (step x.over (pos y.under) y.over (pos x.under))) (from (x.over *ℤ pos y.under) (y.over *ℤ pos x.under) h) })
  where
    step : (a d b c : ℤ) → b *ℤ c +ℤ neg_ℤ a *ℤ d ≡ b *ℤ c -ℤ a *ℤ d
    step a d b c = ring whole (a ∷ d ∷ b ∷ c ∷ []) (v 2 :* v 3 :+ inv (v 0) :* v 1) (v 2 :* v 3 :- v 0 :* v 1) refl

    to : (m n : ℤ) → T (non_neg (n -ℤ m)) → m ≤ℤ n
    to m n t = omega (arith, ints, t)

    from : (m n : ℤ) → m ≤ℤ n → T (non_neg (n -ℤ m))
    from m n h = omega (arith, ints, h)
