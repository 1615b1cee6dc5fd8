-- Whether a value may move.
use Rattle.std.proofs.Common.{◌≡◌, ◌↔◌, ◌⊎◌, inl, inr, Bool, true, false, IsTrue, Option, pos, refl, sym, ap, ◌∙◌, [], ◌∷◌}
use Rattle.fractions.specs.Ring.{ring, v, num, ◌:*◌, inv}
use Rattle.fractions.specs.Number.{Number, rational, zero_ℚ, ◌*ℚ◌, neg_ℚ}
use Rattle.fractions.specs.Order.{◌<ℚ◌, <ℚ-≤ℚ, <ℚ-not}
use Rattle.simplex_laws.specs.Choices.{CanRise, CanFall}
use Rattle.simplex_steps.specs.Signs.{sign_of}

pub move_up : (way x : Number) (l u : Option Number) (r : Bool) → zero_ℚ <ℚ way → IsTrue r ↔ CanRise u x → IsTrue r ↔ (((zero_ℚ <ℚ way) × CanRise u x) ⊎ ((way <ℚ zero_ℚ) × CanFall l x))
move_up way x l u r h e = (λ k. inl (h, e.0 k), λ k. elim k [ inl a ↦ e.1 a.1 | inr b ↦ absurd (<ℚ-not b.0 (<ℚ-≤ℚ h)) ])

pub sign_up : (q : Number) (up : Bool) → up ≡ true → (q ≡ sign_of up *ℚ q) × (q ≡ q *ℚ sign_of up)
sign_up q up e = (ring rational (q ∷ []) (v 0) (num (pos 1) :* v 0) refl ∙ ap (λ b. sign_of b *ℚ q) (sym e), ring rational (q ∷ []) (v 0) (v 0 :* num (pos 1)) refl ∙ ap (λ b. q *ℚ sign_of b) (sym e))

pub sign_down : (q : Number) (up : Bool) → up ≡ false → (neg_ℚ q ≡ sign_of up *ℚ q) × (neg_ℚ q ≡ q *ℚ sign_of up)
sign_down q up e = (ring rational (q ∷ []) (inv (v 0)) (inv (num (pos 1)) :* v 0) refl ∙ ap (λ b. sign_of b *ℚ q) (sym e), ring rational (q ∷ []) (inv (v 0)) (v 0 :* inv (num (pos 1))) refl ∙ ap (λ b. q *ℚ sign_of b) (sym e))
