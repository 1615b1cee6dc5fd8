-- One more product in a sum.
use Rattle.std.proofs.Common.{◌≡◌, ℕ, ◌+◌, Option, Some, None, refl, sym, ap, ◌∙◌, subst, add-one}
use Rattle.fractions.specs.Number.{Number, zero_ℚ, ◌+ℚ◌, ◌*ℚ◌, zero-*ℚ, +ℚ_comm, zero-+ℚ}
use Rattle.fractions.specs.Room.{Room}
use Rattle.exact_numbers.specs.Nothing.{AddsNothing}
use Rattle.lp_model.specs.Vectors.{Vector}
use Rattle.lp_model.specs.Room.{ProductsFitIn}
use Rattle.lp_prices.specs.Prices.{IsSumIn}
use Rattle.lp_prices.proofs.Sums.{Summed, summed_more}

-- the sum with the product f * w, where it has room
pub sum_more : (m : Room) (n : ℕ) (a x : Vector) (s f w r : Number) → f ≡ a n → w ≡ x n → r ≡ s +ℚ f *ℚ w → m.number r → m.number (f *ℚ w) × m.sum s (f *ℚ w) → IsSumIn m n a x (Some s) → IsSumIn m (n + 1) a x (Some r)
sum_more m n a x s f w r ef ew e room fits h =
    let more : Summed m (n + 1) a x r = summed_more m n a x s r f w (record { is = h.0; fits = h.1 }) ef ew e fits in
    (more.is, more.fits, room)

-- where the product or the sum has none
pub sum_past : (m : Room) (n : ℕ) (a x : Vector) (s f w : Number) → f ≡ a n → w ≡ x n → (m.number (f *ℚ w) × m.sum s (f *ℚ w) → ⊥) → IsSumIn m n a x (Some s) → IsSumIn m (n + 1) a x None
sum_past m n a x s f w ef ew none h = subst (λ (k : ℕ). ProductsFitIn m k a x → ⊥) (sym (add-one n))
    (λ all. none (rw (ef, ew) (all.1, rw h.0 all.2)))

-- where there was none before
pub none_more : (m : Room) (n : ℕ) (a x : Vector) → IsSumIn m n a x None → IsSumIn m (n + 1) a x None
none_more m n a x h = subst (λ (k : ℕ). ProductsFitIn m k a x → ⊥) (sym (add-one n)) (λ all. h all.0)

-- a product with the coefficient 0 changes nothing
pub zero_more : (m : Room) (adds : AddsNothing m) (n : ℕ) (a x : Vector) (o : Option Number) → a n ≡ zero_ℚ → IsSumIn m n a x o → IsSumIn m (n + 1) a x o
zero_more m adds n a x None e h = none_more m n a x h
zero_more m adds n a x (Some s) e h =
    let product : a n *ℚ x n ≡ zero_ℚ = ap (λ c. c *ℚ x n) e ∙ zero-*ℚ (x n) in
    sum_more m n a x s (a n) (x n) s refl refl
    (sym (ap (λ p. s +ℚ p) product ∙ +ℚ_comm s zero_ℚ ∙ zero-+ℚ s))
    h.2
    (rw product (adds.zero, adds.sum s h.2))
    h
