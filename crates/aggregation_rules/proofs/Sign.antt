-- The sign of a quotient.
use Rattle.std.proofs.Common.{◌≡◌, ◌≢◌, Bool, true, false, pos, [], ◌∷◌, sym, refl, subst, ◌⊎◌, inl, inr}
use Rattle.fractions.specs.Ring.{ring, v, num, ◌:*◌}
use Rattle.fractions.specs.Number.{Number, rational, zero_ℚ, ◌*ℚ◌}
use Rattle.fractions.specs.Order.{◌≤ℚ◌, ◌<ℚ◌, ≤ℚ_cases, ≤ℚ-*ℚ, <ℚ-≤ℚ, <ℚ-not, ≤ℚ_antisym}
use Rattle.fractions.specs.Compare.{lt_ℚ}
use Rattle.fractions.specs.Division.{◌/ℚ◌}
use Rattle.fractions.specs.Comparisons.{lt_ℚ-is}
use Rattle.fractions.specs.Signs.{over-times, <ℚ-≢, ≤ℚ-*ℚ_down, <ℚ-*ℚ, <ℚ-*ℚ_down}
use Rattle.lp_theory.proofs.ActivityLaws.{lt_false}

pub same_test : (x y : Bool) → (x ≡ true → y ≡ true) → (y ≡ true → x ≡ true) → x ≡ y
same_test true true f g = refl
same_test true false f g = sym (f refl)
same_test false true f g = g refl
same_test false false f g = refl

times_zero : (b : Number) → b *ℚ zero_ℚ ≡ zero_ℚ
times_zero b = ring rational (b ∷ []) (v 0 :* num (pos 0)) (num (pos 0)) refl

pub sign_by_positive : (a b : Number) → zero_ℚ <ℚ b → lt_ℚ zero_ℚ a ≡ lt_ℚ zero_ℚ (a /ℚ b)
sign_by_positive a b h = same_test _ _
    (λ e. let l = (lt_ℚ-is zero_ℚ a).0 e in elim (≤ℚ_cases (a /ℚ b) zero_ℚ) [
      | inl g ↦ absurd (<ℚ-not l (subst (λ z. z ≤ℚ zero_ℚ) back (subst (λ z. (b *ℚ (a /ℚ b)) ≤ℚ z) (times_zero b) (≤ℚ-*ℚ b (<ℚ-≤ℚ h) g))))
      | inr g ↦ (lt_ℚ-is zero_ℚ (a /ℚ b)).1 g
    ])
    (λ e. let l = (lt_ℚ-is zero_ℚ (a /ℚ b)).0 e in elim (≤ℚ_cases a zero_ℚ) [
      | inl g ↦ absurd (zero_not a b h back g l)
      | inr g ↦ (lt_ℚ-is zero_ℚ a).1 g
    ])
  where
    back : b *ℚ (a /ℚ b) ≡ a
    back = over-times b a (<ℚ-≢ h)

    zero_not : (a b : Number) → zero_ℚ <ℚ b → b *ℚ (a /ℚ b) ≡ a → a ≤ℚ zero_ℚ → zero_ℚ <ℚ (a /ℚ b) → ⊥
    zero_not a b h e g l = <ℚ-not (subst (λ z. zero_ℚ <ℚ z) e (subst (λ z. z <ℚ (b *ℚ (a /ℚ b))) (times_zero b) (<ℚ-*ℚ b h l))) g

pub sign_by_negative : (a b : Number) → lt_ℚ zero_ℚ b ≡ false → b ≢ zero_ℚ → lt_ℚ a zero_ℚ ≡ lt_ℚ zero_ℚ (a /ℚ b)
sign_by_negative a b f n = by (≤ℚ_cases zero_ℚ b)
  where
    by : (zero_ℚ ≤ℚ b) ⊎ (b <ℚ zero_ℚ) → lt_ℚ a zero_ℚ ≡ lt_ℚ zero_ℚ (a /ℚ b)
    by (inl g) = absurd (n (≤ℚ_antisym (lt_false zero_ℚ b f) g))
    by (inr h) =
        let back : b *ℚ (a /ℚ b) ≡ a = over-times b a n in
        same_test _ _
        (λ e. let l = (lt_ℚ-is a zero_ℚ).0 e in elim (≤ℚ_cases (a /ℚ b) zero_ℚ) [
          | inl g ↦ absurd (<ℚ-not l (subst (λ z. zero_ℚ ≤ℚ z) back (subst (λ z. z ≤ℚ (b *ℚ (a /ℚ b))) (times_zero b) (≤ℚ-*ℚ_down b (<ℚ-≤ℚ h) g))))
          | inr g ↦ (lt_ℚ-is zero_ℚ (a /ℚ b)).1 g
        ])
        (λ e. let l = (lt_ℚ-is zero_ℚ (a /ℚ b)).0 e in elim (≤ℚ_cases zero_ℚ a) [
          | inl g ↦ absurd (<ℚ-not (subst (λ z. z <ℚ zero_ℚ) back (subst (λ z. (b *ℚ (a /ℚ b)) <ℚ z) (times_zero b) (<ℚ-*ℚ_down b h l))) g)
          | inr g ↦ (lt_ℚ-is a zero_ℚ).1 g
        ])
