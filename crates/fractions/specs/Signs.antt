-- Signs: products, inverses and quotients under the order.
use Rattle.std.proofs.Common.{◌≡◌, ◌≢◌, pos, sym, refl, ap, ◌∙◌, [], ◌∷◌, ◌⊎◌, inl, inr, subst}
use Rattle.fractions.specs.Ring.{ring, v, num, ◌:+◌, ◌:-◌, ◌:*◌, inv}
use Rattle.fractions.specs.Number.{Number, rational, ◌+ℚ◌, ◌-ℚ◌, ◌*ℚ◌, neg_ℚ}
use Rattle.fractions.specs.Order.{◌≤ℚ◌, ◌<ℚ◌, ≤ℚ_refl, ≤ℚ_trans, ≤ℚ-by, ≤ℚ-*ℚ, ≤ℚ_cases, <ℚ-≤ℚ, <ℚ-not}
use Rattle.fractions.specs.Linear.{linear, fact}
use Rattle.fractions.specs.Inverse.{inv_ℚ, ◌/ℚ◌, *ℚ-inv_ℚ, not_one-≤-zero, zero_or_not, one_ℚ}
use Rattle.fractions.specs.Number.{zero_ℚ}

-- an equation gives both inequalities
pub ≤ℚ-same : {a b : Number} → a ≡ b → a ≤ℚ b
≤ℚ-same {a} e = rw (← e) (≤ℚ_refl a)

-- an inequality times a number that is not positive
pub ≤ℚ-*ℚ_down : {p q : Number} (c : Number) → c ≤ℚ zero_ℚ → p ≤ℚ q → (c *ℚ q) ≤ℚ (c *ℚ p)
≤ℚ-*ℚ_down {p} {q} c h k =
    let n : zero_ℚ ≤ℚ neg_ℚ c = ≤ℚ-by c zero_ℚ zero_ℚ (neg_ℚ c) (ring rational (c ∷ []) (num (pos 0) :- v 0) (inv (v 0) :- num (pos 0)) refl) h in
    ≤ℚ-by (neg_ℚ c *ℚ p) (neg_ℚ c *ℚ q) (c *ℚ q) (c *ℚ p) (ring rational (p ∷ q ∷ c ∷ []) (inv (v 2) :* v 1 :- inv (v 2) :* v 0) (v 2 :* v 0 :- v 2 :* v 1) refl) (≤ℚ-*ℚ (neg_ℚ c) n k)

pub ≤ℚ-*_pos : {p q : Number} (c : Number) → zero_ℚ <ℚ c → p ≤ℚ q → (c *ℚ p) ≤ℚ (c *ℚ q)
≤ℚ-*_pos c h k = ≤ℚ-*ℚ c (<ℚ-≤ℚ h) k

pub <ℚ-≢ : {p q : Number} → p <ℚ q → q ≢ p
<ℚ-≢ {p} {q} h e = <ℚ-not h (≤ℚ-same e)

pub <ℚ-≢' : {p q : Number} → p <ℚ q → p ≢ q
<ℚ-≢' {p} {q} h e = <ℚ-not h (≤ℚ-same (sym e))

-- the inverse has the sign of the number
pub inverse_pos : (a : Number) → zero_ℚ <ℚ a → zero_ℚ ≤ℚ inv_ℚ a
inverse_pos a h = by (≤ℚ_cases zero_ℚ (inv_ℚ a))
  where
    by : (zero_ℚ ≤ℚ inv_ℚ a) ⊎ (inv_ℚ a <ℚ zero_ℚ) → zero_ℚ ≤ℚ inv_ℚ a
    by (inl k) = k
    by (inr k) = absurd (not_one-≤-zero (≤ℚ-by (a *ℚ inv_ℚ a) (a *ℚ zero_ℚ) one_ℚ zero_ℚ
        (ap (λ c. a *ℚ zero_ℚ -ℚ c) (*ℚ-inv_ℚ a (<ℚ-≢ h)) ∙ ring rational (a ∷ []) (v 0 :* num (pos 0) :- num (pos 1)) (num (pos 0) :- num (pos 1)) refl)
        (≤ℚ-*_pos a h (<ℚ-≤ℚ k))))

pub inverse_neg : (a : Number) → a <ℚ zero_ℚ → inv_ℚ a ≤ℚ zero_ℚ
inverse_neg a h = by (≤ℚ_cases (inv_ℚ a) zero_ℚ)
  where
    by : (inv_ℚ a ≤ℚ zero_ℚ) ⊎ (zero_ℚ <ℚ inv_ℚ a) → inv_ℚ a ≤ℚ zero_ℚ
    by (inl k) = k
    by (inr k) = absurd (not_one-≤-zero (≤ℚ-by (a *ℚ inv_ℚ a) (a *ℚ zero_ℚ) one_ℚ zero_ℚ
        (ap (λ c. a *ℚ zero_ℚ -ℚ c) (*ℚ-inv_ℚ a (<ℚ-≢' h)) ∙ ring rational (a ∷ []) (v 0 :* num (pos 0) :- num (pos 1)) (num (pos 0) :- num (pos 1)) refl)
        (≤ℚ-*ℚ_down a (<ℚ-≤ℚ h) (<ℚ-≤ℚ k))))

-- (a * x) / a
pub times-over : (a x : Number) → a ≢ zero_ℚ → (a *ℚ x) /ℚ a ≡ x
times-over a x n =
    ring rational (a ∷ x ∷ inv_ℚ a ∷ []) (v 0 :* v 1 :* v 2) (v 0 :* v 2 :* v 1) refl
    ∙ ap (λ c. c *ℚ x) (*ℚ-inv_ℚ a n) ∙ ring rational (x ∷ []) (num (pos 1) :* v 0) (v 0) refl

pub over-times : (a c : Number) → a ≢ zero_ℚ → a *ℚ (c /ℚ a) ≡ c
over-times a c n = ring rational (a ∷ c ∷ inv_ℚ a ∷ []) (v 0 :* (v 1 :* v 2)) (v 0 :* v 1 :* v 2) refl ∙ times-over a c n

pub over-≤ : {p q : Number} (a : Number) → zero_ℚ <ℚ a → p ≤ℚ q → (p /ℚ a) ≤ℚ (q /ℚ a)
over-≤ {p} {q} a h k = ≤ℚ-by (inv_ℚ a *ℚ p) (inv_ℚ a *ℚ q) (p /ℚ a) (q /ℚ a) (ring rational (p ∷ q ∷ inv_ℚ a ∷ []) (v 2 :* v 1 :- v 2 :* v 0) (v 1 :* v 2 :- v 0 :* v 2) refl) (≤ℚ-*ℚ (inv_ℚ a) (inverse_pos a h) k)

pub over-≤_down : {p q : Number} (a : Number) → a <ℚ zero_ℚ → p ≤ℚ q → (q /ℚ a) ≤ℚ (p /ℚ a)
over-≤_down {p} {q} a h k = ≤ℚ-by (inv_ℚ a *ℚ q) (inv_ℚ a *ℚ p) (q /ℚ a) (p /ℚ a) (ring rational (p ∷ q ∷ inv_ℚ a ∷ []) (v 2 :* v 0 :- v 2 :* v 1) (v 0 :* v 2 :- v 1 :* v 2) refl) (≤ℚ-*ℚ_down (inv_ℚ a) (inverse_neg a h) k)

-- bounds through a factor
pub low_pos : (a x c : Number) → zero_ℚ <ℚ a → c ≤ℚ (a *ℚ x) → (c /ℚ a) ≤ℚ x
low_pos a x c h k = subst (λ z. (c /ℚ a) ≤ℚ z) (times-over a x (<ℚ-≢ h)) (over-≤ a h k)

pub high_pos : (a x c : Number) → zero_ℚ <ℚ a → (a *ℚ x) ≤ℚ c → x ≤ℚ (c /ℚ a)
high_pos a x c h k = subst (λ z. z ≤ℚ (c /ℚ a)) (times-over a x (<ℚ-≢ h)) (over-≤ a h k)

pub low_neg : (a x c : Number) → a <ℚ zero_ℚ → (a *ℚ x) ≤ℚ c → (c /ℚ a) ≤ℚ x
low_neg a x c h k = subst (λ z. (c /ℚ a) ≤ℚ z) (times-over a x (<ℚ-≢' h)) (over-≤_down a h k)

pub high_neg : (a x c : Number) → a <ℚ zero_ℚ → c ≤ℚ (a *ℚ x) → x ≤ℚ (c /ℚ a)
high_neg a x c h k = subst (λ z. z ≤ℚ (c /ℚ a)) (times-over a x (<ℚ-≢' h)) (over-≤_down a h k)

-- and back
pub low_pos' : (a x c : Number) → zero_ℚ <ℚ a → (c /ℚ a) ≤ℚ x → c ≤ℚ (a *ℚ x)
low_pos' a x c h k = subst (λ z. z ≤ℚ (a *ℚ x)) (over-times a c (<ℚ-≢ h)) (≤ℚ-*_pos a h k)

pub high_pos' : (a x c : Number) → zero_ℚ <ℚ a → x ≤ℚ (c /ℚ a) → (a *ℚ x) ≤ℚ c
high_pos' a x c h k = subst (λ z. (a *ℚ x) ≤ℚ z) (over-times a c (<ℚ-≢ h)) (≤ℚ-*_pos a h k)

pub low_neg' : (a x c : Number) → a <ℚ zero_ℚ → (c /ℚ a) ≤ℚ x → (a *ℚ x) ≤ℚ c
low_neg' a x c h k = subst (λ z. (a *ℚ x) ≤ℚ z) (over-times a c (<ℚ-≢' h)) (≤ℚ-*ℚ_down a (<ℚ-≤ℚ h) k)

pub high_neg' : (a x c : Number) → a <ℚ zero_ℚ → x ≤ℚ (c /ℚ a) → c ≤ℚ (a *ℚ x)
high_neg' a x c h k = subst (λ z. z ≤ℚ (a *ℚ x)) (over-times a c (<ℚ-≢' h)) (≤ℚ-*ℚ_down a (<ℚ-≤ℚ h) k)

-- ---- strict inequalities
pub <ℚ-irrefl : (p : Number) → p <ℚ p → ⊥
<ℚ-irrefl p h = <ℚ-not h (≤ℚ_refl p)

pub ≤ℚ-<ℚ : {p q r : Number} → p ≤ℚ q → q <ℚ r → p <ℚ r
≤ℚ-<ℚ {p} {q} {r} h k = elim (≤ℚ_cases r p) [ inl l ↦ absurd (<ℚ-not k (≤ℚ_trans l h)) | inr l ↦ l ]

pub <ℚ-≤ℚ_trans : {p q r : Number} → p <ℚ q → q ≤ℚ r → p <ℚ r
<ℚ-≤ℚ_trans {p} {q} {r} h k = elim (≤ℚ_cases r p) [ inl l ↦ absurd (<ℚ-not h (≤ℚ_trans k l)) | inr l ↦ l ]

pub <ℚ_trans : {p q r : Number} → p <ℚ q → q <ℚ r → p <ℚ r
<ℚ_trans h k = ≤ℚ-<ℚ (<ℚ-≤ℚ h) k

-- two strict inequalities, and one of each kind, added
pub <ℚ-+ℚ : {p q r s : Number} → p <ℚ q → r ≤ℚ s → (p +ℚ r) <ℚ (q +ℚ s)
<ℚ-+ℚ {p} {q} {r} {s} h k = elim (≤ℚ_cases (q +ℚ s) (p +ℚ r)) [
  | inl l ↦ absurd (<ℚ-not h (linear (p ∷ q ∷ r ∷ s ∷ []) (fact 1 (v 1 :+ v 3) (v 0 :+ v 2) ∷ fact 1 (v 2) (v 3) ∷ []) 0 (v 1) (v 0) (l, (k, tt)) refl))
  | inr l ↦ l
]

-- ---- negatives
pub neg_ℚ-≤ : {p q : Number} → p ≤ℚ q → neg_ℚ q ≤ℚ neg_ℚ p
neg_ℚ-≤ {p} {q} h = ≤ℚ-by p q (neg_ℚ q) (neg_ℚ p) (ring rational (p ∷ q ∷ []) (v 1 :- v 0) (inv (v 0) :- inv (v 1)) refl) h

pub neg_ℚ-< : {p q : Number} → p <ℚ q → neg_ℚ q <ℚ neg_ℚ p
neg_ℚ-< {p} {q} h = elim (≤ℚ_cases (neg_ℚ p) (neg_ℚ q)) [
  | inl l ↦ absurd (<ℚ-not h (≤ℚ-by (neg_ℚ p) (neg_ℚ q) q p (ring rational (p ∷ q ∷ []) (inv (v 1) :- inv (v 0)) (v 0 :- v 1) refl) l))
  | inr l ↦ l
]

-- ---- signs of products
pub *ℚ_pos : {p q : Number} → zero_ℚ ≤ℚ p → zero_ℚ ≤ℚ q → zero_ℚ ≤ℚ (p *ℚ q)
*ℚ_pos {p} {q} h k = subst (λ z. z ≤ℚ (p *ℚ q)) (ring rational (p ∷ []) (v 0 :* num (pos 0)) (num (pos 0)) refl) (≤ℚ-*ℚ p h k)

pub *ℚ_pos_neg : {p q : Number} → zero_ℚ ≤ℚ p → q ≤ℚ zero_ℚ → (p *ℚ q) ≤ℚ zero_ℚ
*ℚ_pos_neg {p} {q} h k = subst (λ z. (p *ℚ q) ≤ℚ z) (ring rational (p ∷ []) (v 0 :* num (pos 0)) (num (pos 0)) refl) (≤ℚ-*ℚ p h k)

pub *ℚ_neg : {p q : Number} → p ≤ℚ zero_ℚ → q ≤ℚ zero_ℚ → zero_ℚ ≤ℚ (p *ℚ q)
*ℚ_neg {p} {q} h k = subst (λ z. z ≤ℚ (p *ℚ q)) (ring rational (p ∷ []) (v 0 :* num (pos 0)) (num (pos 0)) refl) (≤ℚ-*ℚ_down p h k)

pub square_pos : (p : Number) → zero_ℚ ≤ℚ (p *ℚ p)
square_pos p = elim (≤ℚ_cases zero_ℚ p) [ inl h ↦ *ℚ_pos h h | inr h ↦ *ℚ_neg (<ℚ-≤ℚ h) (<ℚ-≤ℚ h) ]

-- a factor that is not 0 can be left out
pub *ℚ-cancel : (a p q : Number) → a ≢ zero_ℚ → a *ℚ p ≡ a *ℚ q → p ≡ q
*ℚ-cancel a p q n e = sym (times-over a p n) ∙ ap (λ z. z /ℚ a) e ∙ times-over a q n

pub *ℚ-zero : (p q : Number) → p *ℚ q ≡ zero_ℚ → (p ≡ zero_ℚ) ⊎ (q ≡ zero_ℚ)
*ℚ-zero p q e = elim (zero_or_not p) [
  | inl h ↦ inl h
  | inr n ↦ inr (*ℚ-cancel p q zero_ℚ n (e ∙ ring rational (p ∷ []) (num (pos 0)) (v 0 :* num (pos 0)) refl))
]

-- a positive factor can be left out of an inequality
pub ≤ℚ-cancel : {p q : Number} (c : Number) → zero_ℚ <ℚ c → (c *ℚ p) ≤ℚ (c *ℚ q) → p ≤ℚ q
≤ℚ-cancel {p} {q} c h k = subst (λ z. z ≤ℚ q) (times-over c p (<ℚ-≢ h)) (low_pos c q (c *ℚ p) h k)

pub ≤ℚ-cancel_down : {p q : Number} (c : Number) → c <ℚ zero_ℚ → (c *ℚ p) ≤ℚ (c *ℚ q) → q ≤ℚ p
≤ℚ-cancel_down {p} {q} c h k = subst (λ z. q ≤ℚ z) (times-over c p (<ℚ-≢' h)) (high_neg c q (c *ℚ p) h k)

pub <ℚ-*ℚ : {p q : Number} (c : Number) → zero_ℚ <ℚ c → p <ℚ q → (c *ℚ p) <ℚ (c *ℚ q)
<ℚ-*ℚ {p} {q} c h k = elim (≤ℚ_cases (c *ℚ q) (c *ℚ p)) [ inl l ↦ absurd (<ℚ-not k (≤ℚ-cancel c h l)) | inr l ↦ l ]

pub <ℚ-*ℚ_down : {p q : Number} (c : Number) → c <ℚ zero_ℚ → p <ℚ q → (c *ℚ q) <ℚ (c *ℚ p)
<ℚ-*ℚ_down {p} {q} c h k = elim (≤ℚ_cases (c *ℚ p) (c *ℚ q)) [ inl l ↦ absurd (<ℚ-not k (≤ℚ-cancel_down c h l)) | inr l ↦ l ]
