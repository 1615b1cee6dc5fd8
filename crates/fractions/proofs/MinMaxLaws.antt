-- Laws of the less and the greater of two numbers, and of the distance from 0.
use Rattle.std.proofs.Common.{◌≡◌, pos, Bool, true, false, if◌then◌else◌, ◌⊎◌, inl, inr, [], ◌∷◌, sym, refl, ap, ap₂, ◌∙◌, subst, true≢false}
use Rattle.fractions.specs.Ring.{ring, v, num, ◌:+◌, ◌:-◌, ◌:*◌, inv}
use Rattle.fractions.specs.Number.{Number, rational, ◌+ℚ◌, ◌*ℚ◌, neg_ℚ, zero_ℚ}
use Rattle.fractions.specs.Order.{◌≤ℚ◌, ≤ℚ_refl, ≤ℚ_trans, ≤ℚ_antisym, ≤ℚ-by, ≤ℚ_cases, ≤ℚ-+ℚ, <ℚ-≤ℚ}
use Rattle.fractions.specs.Compare.{le_ℚ}
use Rattle.fractions.specs.MinMax.{min_ℚ, max_ℚ, abs_ℚ}
use Rattle.fractions.specs.Comparisons.{le_ℚ-is}
use Rattle.fractions.specs.Signs.{*ℚ_pos, *ℚ_pos_neg, *ℚ_neg}

other : (p q : Number) → le_ℚ p q ≡ false → q ≤ℚ p
other p q e = elim (≤ℚ_cases p q) [ inl h ↦ absurd (true≢false (sym ((le_ℚ-is p q).1 h) ∙ e)) | inr h ↦ <ℚ-≤ℚ h ]

-- which of the two it is, and why
pub min_ℚ_cases : (p q : Number) → ((min_ℚ p q ≡ p) × (p ≤ℚ q)) ⊎ ((min_ℚ p q ≡ q) × (q ≤ℚ p))
min_ℚ_cases p q = by (le_ℚ p q) refl
  where
    by : (b : Bool) → le_ℚ p q ≡ b → ((min_ℚ p q ≡ p) × (p ≤ℚ q)) ⊎ ((min_ℚ p q ≡ q) × (q ≤ℚ p))
    by true e = inl (ap (λ (b : Bool). if b then p else q) e, (le_ℚ-is p q).0 e)
    by false e = inr (ap (λ (b : Bool). if b then p else q) e, other p q e)

pub max_ℚ_cases : (p q : Number) → ((max_ℚ p q ≡ q) × (p ≤ℚ q)) ⊎ ((max_ℚ p q ≡ p) × (q ≤ℚ p))
max_ℚ_cases p q = by (le_ℚ p q) refl
  where
    by : (b : Bool) → le_ℚ p q ≡ b → ((max_ℚ p q ≡ q) × (p ≤ℚ q)) ⊎ ((max_ℚ p q ≡ p) × (q ≤ℚ p))
    by true e = inl (ap (λ (b : Bool). if b then q else p) e, (le_ℚ-is p q).0 e)
    by false e = inr (ap (λ (b : Bool). if b then q else p) e, other p q e)

pub min_ℚ-≤_left : (p q : Number) → min_ℚ p q ≤ℚ p
min_ℚ-≤_left p q = elim (min_ℚ_cases p q) [ inl h ↦ subst (λ z. z ≤ℚ p) (sym h.0) (≤ℚ_refl p) | inr h ↦ subst (λ z. z ≤ℚ p) (sym h.0) h.1 ]

pub min_ℚ-≤_right : (p q : Number) → min_ℚ p q ≤ℚ q
min_ℚ-≤_right p q = elim (min_ℚ_cases p q) [ inl h ↦ subst (λ z. z ≤ℚ q) (sym h.0) h.1 | inr h ↦ subst (λ z. z ≤ℚ q) (sym h.0) (≤ℚ_refl q) ]

pub ≤ℚ-min_ℚ : {p q r : Number} → r ≤ℚ p → r ≤ℚ q → r ≤ℚ min_ℚ p q
≤ℚ-min_ℚ {p} {q} {r} h k = elim (min_ℚ_cases p q) [ inl m ↦ subst (λ z. r ≤ℚ z) (sym m.0) h | inr m ↦ subst (λ z. r ≤ℚ z) (sym m.0) k ]

pub ≤ℚ-max_ℚ_left : (p q : Number) → p ≤ℚ max_ℚ p q
≤ℚ-max_ℚ_left p q = elim (max_ℚ_cases p q) [ inl h ↦ subst (λ z. p ≤ℚ z) (sym h.0) h.1 | inr h ↦ subst (λ z. p ≤ℚ z) (sym h.0) (≤ℚ_refl p) ]

pub ≤ℚ-max_ℚ_right : (p q : Number) → q ≤ℚ max_ℚ p q
≤ℚ-max_ℚ_right p q = elim (max_ℚ_cases p q) [ inl h ↦ subst (λ z. q ≤ℚ z) (sym h.0) (≤ℚ_refl q) | inr h ↦ subst (λ z. q ≤ℚ z) (sym h.0) h.1 ]

pub max_ℚ-≤ : {p q r : Number} → p ≤ℚ r → q ≤ℚ r → max_ℚ p q ≤ℚ r
max_ℚ-≤ {p} {q} {r} h k = elim (max_ℚ_cases p q) [ inl m ↦ subst (λ z. z ≤ℚ r) (sym m.0) k | inr m ↦ subst (λ z. z ≤ℚ r) (sym m.0) h ]

-- ---- the distance from 0
pub abs_ℚ_cases : (q : Number) → ((abs_ℚ q ≡ q) × (zero_ℚ ≤ℚ q)) ⊎ ((abs_ℚ q ≡ neg_ℚ q) × (q ≤ℚ zero_ℚ))
abs_ℚ_cases q = by (le_ℚ zero_ℚ q) refl
  where
    by : (b : Bool) → le_ℚ zero_ℚ q ≡ b → ((abs_ℚ q ≡ q) × (zero_ℚ ≤ℚ q)) ⊎ ((abs_ℚ q ≡ neg_ℚ q) × (q ≤ℚ zero_ℚ))
    by true e = inl (ap (λ (b : Bool). if b then q else neg_ℚ q) e, (le_ℚ-is zero_ℚ q).0 e)
    by false e = inr (ap (λ (b : Bool). if b then q else neg_ℚ q) e, other zero_ℚ q e)

up_to : (q : Number) → q ≤ℚ zero_ℚ → zero_ℚ ≤ℚ neg_ℚ q
up_to q h = ≤ℚ-by q zero_ℚ zero_ℚ (neg_ℚ q) (ring rational (q ∷ []) (num (pos 0) :- v 0) (inv (v 0) :- num (pos 0)) refl) h

down_to : (q : Number) → zero_ℚ ≤ℚ q → neg_ℚ q ≤ℚ zero_ℚ
down_to q h = ≤ℚ-by zero_ℚ q (neg_ℚ q) zero_ℚ (ring rational (q ∷ []) (v 0 :- num (pos 0)) (num (pos 0) :- inv (v 0)) refl) h

pub abs_ℚ_pos : (q : Number) → zero_ℚ ≤ℚ abs_ℚ q
abs_ℚ_pos q = elim (abs_ℚ_cases q) [ inl h ↦ subst (λ z. zero_ℚ ≤ℚ z) (sym h.0) h.1 | inr h ↦ subst (λ z. zero_ℚ ≤ℚ z) (sym h.0) (up_to q h.1) ]

pub ≤ℚ-abs_ℚ : (q : Number) → q ≤ℚ abs_ℚ q
≤ℚ-abs_ℚ q = elim (abs_ℚ_cases q) [ inl h ↦ subst (λ z. q ≤ℚ z) (sym h.0) (≤ℚ_refl q) | inr h ↦ subst (λ z. q ≤ℚ z) (sym h.0) (≤ℚ_trans h.1 (up_to q h.1)) ]

pub neg_ℚ-≤-abs_ℚ : (q : Number) → neg_ℚ q ≤ℚ abs_ℚ q
neg_ℚ-≤-abs_ℚ q = elim (abs_ℚ_cases q) [ inl h ↦ subst (λ z. neg_ℚ q ≤ℚ z) (sym h.0) (≤ℚ_trans (down_to q h.1) h.1) | inr h ↦ subst (λ z. neg_ℚ q ≤ℚ z) (sym h.0) (≤ℚ_refl (neg_ℚ q)) ]

-- a distance is within r where the number and its negative are
pub abs_ℚ-≤ : {q r : Number} → q ≤ℚ r → neg_ℚ q ≤ℚ r → abs_ℚ q ≤ℚ r
abs_ℚ-≤ {q} {r} h k = elim (abs_ℚ_cases q) [ inl m ↦ subst (λ z. z ≤ℚ r) (sym m.0) h | inr m ↦ subst (λ z. z ≤ℚ r) (sym m.0) k ]

-- the number itself where it isn't negative, and its negative where it isn't positive
pub abs_ℚ-is : (q : Number) → zero_ℚ ≤ℚ q → abs_ℚ q ≡ q
abs_ℚ-is q h = elim (abs_ℚ_cases q) [ inl m ↦ m.0 | inr m ↦ m.0 ∙ ap neg_ℚ (≤ℚ_antisym m.1 h) ∙ ring rational [] (inv (num (pos 0))) (num (pos 0)) refl ∙ ≤ℚ_antisym h m.1 ]

pub abs_ℚ-neg : (q : Number) → q ≤ℚ zero_ℚ → abs_ℚ q ≡ neg_ℚ q
abs_ℚ-neg q h = elim (abs_ℚ_cases q) [ inl m ↦ m.0 ∙ ≤ℚ_antisym h m.1 ∙ ring rational [] (num (pos 0)) (inv (num (pos 0))) refl ∙ ap neg_ℚ (≤ℚ_antisym m.1 h) | inr m ↦ m.0 ]

pub abs_ℚ-+ℚ : (p q : Number) → abs_ℚ (p +ℚ q) ≤ℚ (abs_ℚ p +ℚ abs_ℚ q)
abs_ℚ-+ℚ p q = abs_ℚ-≤ (≤ℚ-+ℚ (≤ℚ-abs_ℚ p) (≤ℚ-abs_ℚ q))
    (subst (λ z. z ≤ℚ (abs_ℚ p +ℚ abs_ℚ q)) (ring rational (p ∷ q ∷ []) (inv (v 0) :+ inv (v 1)) (inv (v 0 :+ v 1)) refl) (≤ℚ-+ℚ (neg_ℚ-≤-abs_ℚ p) (neg_ℚ-≤-abs_ℚ q)))

pub abs_ℚ-*ℚ : (p q : Number) → abs_ℚ (p *ℚ q) ≡ abs_ℚ p *ℚ abs_ℚ q
abs_ℚ-*ℚ p q = by (abs_ℚ_cases p) (abs_ℚ_cases q)
  where
    by : ((abs_ℚ p ≡ p) × (zero_ℚ ≤ℚ p)) ⊎ ((abs_ℚ p ≡ neg_ℚ p) × (p ≤ℚ zero_ℚ)) → ((abs_ℚ q ≡ q) × (zero_ℚ ≤ℚ q)) ⊎ ((abs_ℚ q ≡ neg_ℚ q) × (q ≤ℚ zero_ℚ)) → abs_ℚ (p *ℚ q) ≡ abs_ℚ p *ℚ abs_ℚ q
    by (inl a) (inl b) = abs_ℚ-is (p *ℚ q) (*ℚ_pos a.1 b.1) ∙ sym (ap₂ ◌*ℚ◌ a.0 b.0)
    by (inl a) (inr b) = abs_ℚ-neg (p *ℚ q) (*ℚ_pos_neg a.1 b.1) ∙ ring rational (p ∷ q ∷ []) (inv (v 0 :* v 1)) (v 0 :* inv (v 1)) refl ∙ sym (ap₂ ◌*ℚ◌ a.0 b.0)
    by (inr a) (inl b) = abs_ℚ-neg (p *ℚ q) (subst (λ z. z ≤ℚ zero_ℚ) (ring rational (p ∷ q ∷ []) (v 1 :* v 0) (v 0 :* v 1) refl) (*ℚ_pos_neg b.1 a.1)) ∙ ring rational (p ∷ q ∷ []) (inv (v 0 :* v 1)) (inv (v 0) :* v 1) refl ∙ sym (ap₂ ◌*ℚ◌ a.0 b.0)
    by (inr a) (inr b) = abs_ℚ-is (p *ℚ q) (*ℚ_neg a.1 b.1) ∙ ring rational (p ∷ q ∷ []) (v 0 :* v 1) (inv (v 0) :* inv (v 1)) refl ∙ sym (ap₂ ◌*ℚ◌ a.0 b.0)

-- one of the two, whichever it is
pub min_ℚ_one : (p q : Number) → (min_ℚ p q ≡ p) ⊎ (min_ℚ p q ≡ q)
min_ℚ_one p q = elim (min_ℚ_cases p q) [ inl h ↦ inl h.0 | inr h ↦ inr h.0 ]

pub max_ℚ_one : (p q : Number) → (max_ℚ p q ≡ p) ⊎ (max_ℚ p q ≡ q)
max_ℚ_one p q = elim (max_ℚ_cases p q) [ inl h ↦ inr h.0 | inr h ↦ inl h.0 ]

pub abs_ℚ_one : (q : Number) → (abs_ℚ q ≡ q) ⊎ (abs_ℚ q ≡ neg_ℚ q)
abs_ℚ_one q = elim (abs_ℚ_cases q) [ inl h ↦ inl h.0 | inr h ↦ inr h.0 ]
