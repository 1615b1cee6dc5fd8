-- Sums as loops make them, in a kind of numbers.
use Rattle.std.proofs.Common.{◌≡◌, ◌≢◌, ◌⊎◌, inl, inr, ℕ, zero, suc, ◌+◌, ◌<◌, sym, ap₂, ◌∙◌, subst, add-one, arith}
use Rattle.std.proofs.lemmas.Bool.{cases_eq}
use Rattle.fractions.specs.Number.{Number, zero_ℚ, ◌+ℚ◌, ◌*ℚ◌}
use Rattle.fractions.specs.Total.{total}
use Rattle.fractions.specs.Room.{Room}
use Rattle.lp_model.specs.Vectors.{Vector}
use Rattle.lp_model.specs.Room.{ProductsFitIn}

-- the sum of the first n products, as a loop has it
pub record Summed (m : Room) (n : ℕ) (a x : Vector) (s : Number) : Type 0 where
  pub is : s ≡ total n (λ k. a k *ℚ x k)
  pub fits : ProductsFitIn m n a x

pub summed_none : (m : Room) (a x : Vector) (s : Number) → s ≡ zero_ℚ → Summed m 0 a x s
unfolding total
summed_none m a x s e = record { is = e; fits = tt }

-- one more product, c times w
pub summed_more : (m : Room) (n : ℕ) (a x : Vector) (s r c w : Number) → Summed m n a x s → c ≡ a n → w ≡ x n → r ≡ s +ℚ c *ℚ w → m.number (c *ℚ w) × m.sum s (c *ℚ w) → Summed m (n + 1) a x r
unfolding total
summed_more m n a x s r c w h ec ew e f =
    subst (λ (k : ℕ). Summed m k a x r) (sym (add-one n)) (record {
      is = e ∙ ap₂ ◌+ℚ◌ h.is (ap₂ ◌*ℚ◌ ec ew);
      fits = (h.fits, subst (λ p. m.number p) (ap₂ ◌*ℚ◌ ec ew) f.0, subst (λ p. m.sum (total n (λ k. a k *ℚ x k)) p) (ap₂ ◌*ℚ◌ ec ew) (subst (λ t. m.sum t (c *ℚ w)) h.is f.1));
    })

fits_at : (m : Room) (n : ℕ) (a x : Vector) (j : ℕ) → ProductsFitIn m n a x → j < n → m.number (a j *ℚ x j) × m.sum (total j (λ k. a k *ℚ x k)) (a j *ℚ x j)
fits_at m zero a x j h l = absurd (omega arith)
fits_at m (suc n) a x j h l = by (cases_eq j n) (fits_at m n a x j h.0)
  where
    by : (j ≡ n) ⊎ (j ≢ n) → (j < n → m.number (a j *ℚ x j) × m.sum (total j (λ k. a k *ℚ x k)) (a j *ℚ x j)) → m.number (a j *ℚ x j) × m.sum (total j (λ k. a k *ℚ x k)) (a j *ℚ x j)
    by (inl e) ih = rw e (h.1, h.2)
    by (inr apart) ih = ih (omega arith)

-- a product or a sum without room, at j
pub no_room : (m : Room) (n : ℕ) (a x : Vector) (j : ℕ) (s c w : Number) → Summed m j a x s → c ≡ a j → w ≡ x j → j < n → (m.number (c *ℚ w) × m.sum s (c *ℚ w) → ⊥) → ProductsFitIn m n a x → ⊥
no_room m n a x j s c w h ec ew l none f = let p = fits_at m n a x j f l in
    none (subst (λ p. m.number p) (sym (ap₂ ◌*ℚ◌ ec ew)) p.0, subst (λ t. m.sum t (c *ℚ w)) (sym h.is) (subst (λ p. m.sum (total j (λ k. a k *ℚ x k)) p) (sym (ap₂ ◌*ℚ◌ ec ew)) p.1))
