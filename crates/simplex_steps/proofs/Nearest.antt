-- One more limit.
use Rattle.std.proofs.Common.{◌≡◌, ◌⊎◌, inl, inr, ℕ, ◌+◌, ◌<◌, ◌≤◌, Option, Some, None, sym, ap, ◌∙◌, arith, subst}
use Rattle.std.proofs.lemmas.Bool.{cases_eq}
use Rattle.fractions.specs.Number.{Number}
use Rattle.fractions.specs.Order.{◌≤ℚ◌, ◌<ℚ◌, ≤ℚ_antisym, ≤ℚ_cases}
use Rattle.fractions.specs.Signs.{<ℚ_trans}
use Rattle.simplex_steps.specs.declared.limits.Stop.{Stop}
use Rattle.simplex_steps.specs.Best.{IsNearest, IsBest}

some_clash : {a : Number} {o : Option Number} → o ≡ None → o ≡ Some a → ⊥
some_clash {a} {o} p q = let e = sym p ∙ q in clash e
  where
    clash : None ≡ Some a → ⊥
    clash e = cc

some_same : {a b : Number} {o : Option Number} → o ≡ Some a → o ≡ Some b → a ≡ b
some_same {a} {b} {o} p q = inj (sym p ∙ q)
  where
    inj : Some a ≡ Some b → a ≡ b
    inj e = cc

-- the one below k + 1 is below k, or it is k
last_or : (j k : ℕ) → j < k + 1 → (j < k) ⊎ (j ≡ k)
last_or j k l = elim (cases_eq j k) [ inl e ↦ inr e | inr n ↦ inl (omega arith) ]

pub best_none : (limits : ℕ → Option Number) (m : ℕ) (o : Option Stop) → None ≡ limits m → IsBest limits m o → IsBest limits (m + 1) o
best_none limits m None e h = λ j l. by j (last_or j m l)
  where
    by : (j : ℕ) → (j < m) ⊎ (j ≡ m) → limits j ≡ None
    by j (inl l) = h j l
    by j (inr q) = ap limits q ∙ sym e
best_none limits m (Some s) e h = record {
  within = omega (arith, h.within);
  limit = h.limit;
  least = λ j r l q. elim (last_or j m l) [ inl b ↦ h.least j r b q | inr b ↦ absurd (some_clash (ap limits b ∙ sym e) q) ];
}

pub best_kept : (limits : ℕ → Option Number) (m : ℕ) (s : Stop) (far : Number) → Some far ≡ limits m → s.far ≤ℚ far → IsNearest limits m s → IsNearest limits (m + 1) s
best_kept limits m s far e k h = record {
  within = omega (arith, h.within);
  limit = h.limit;
  least = λ j r l q. by j r q (last_or j m l);
}
  where
    by : (j : ℕ) (r : Number) → limits j ≡ Some r → (j < m) ⊎ (j ≡ m) → (s.far <ℚ r) ⊎ ((s.far ≡ r) × (s.variable ≤ j))
    by j r q (inl b) = h.least j r b q
    by j r q (inr b) = let same : far ≡ r = some_same (ap limits b ∙ sym e) q in elim (≤ℚ_cases far s.far) [
      | inl c ↦ inr (≤ℚ_antisym k c ∙ same, let w : s.variable < m = h.within in omega arith)
      | inr c ↦ inl (subst (λ z. s.far <ℚ z) same c)
    ]

pub best_first : (limits : ℕ → Option Number) (m : ℕ) (far : Number) → Some far ≡ limits m → IsBest limits m None → IsNearest limits (m + 1) (record { variable = m; far = far })
best_first limits m far e h = record {
  within = omega arith;
  limit = sym e;
  least = λ j r l q. elim (last_or j m l) [ inl b ↦ absurd (some_clash (h j b) q) | inr b ↦ inr (some_same (ap limits b ∙ sym e) q, omega arith) ];
}

pub best_taken : (limits : ℕ → Option Number) (m : ℕ) (s : Stop) (far : Number) → Some far ≡ limits m → far <ℚ s.far → IsNearest limits m s → IsNearest limits (m + 1) (record { variable = m; far = far })
best_taken limits m s far e k h = record {
  within = omega arith;
  limit = sym e;
  least = λ j r l q. by j r q (last_or j m l);
}
  where
    by : (j : ℕ) (r : Number) → limits j ≡ Some r → (j < m) ⊎ (j ≡ m) → (far <ℚ r) ⊎ ((far ≡ r) × (m ≤ j))
    by j r q (inl b) = elim (h.least j r b q) [ inl c ↦ inl (<ℚ_trans k c) | inr c ↦ inl (subst (λ z. far <ℚ z) c.0 k) ]
    by j r q (inr b) = inr (some_same (ap limits b ∙ sym e) q, omega arith)
