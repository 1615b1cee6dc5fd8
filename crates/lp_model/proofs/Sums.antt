-- Sums and selections as loops make them.
use Rattle.std.proofs.Common.{◌≡◌, ◌≢◌, ◌⊎◌, inl, inr, ℕ, zero, suc, ◌+◌, ◌<◌, List, ◌∷◌, length, drop, get_or, refl, sym, ap, ap₂, ◌∙◌, subst, add-one, arith, true, false}
use Rattle.std.proofs.lemmas.List.{get_or_default}
use Rattle.std.proofs.Math.Seq.{drop-cons}
use Rattle.std.proofs.lemmas.Bool.{cases_eq, eq-eqb, ne_eqb}
use Rattle.fractions.specs.Number.{Number, zero_ℚ, ◌+ℚ◌, ◌*ℚ◌}
use Rattle.fractions.specs.Lowest.{Fits}
use Rattle.fractions.specs.Total.{total, put}
use Rattle.fractions.specs.FracWords.{SumFits}
use Rattle.lp_model.specs.declared.terms.Term.{Term}
use Rattle.lp_model.specs.Vectors.{Vector}
use Rattle.lp_model.specs.Sparse.{dense}
use Rattle.lp_model.specs.Room.{ProductsFit}

-- the sum of the first n products, as a loop has it
pub record Summed (n : ℕ) (a x : Vector) (s : Number) : Type 0 where
  pub is : s ≡ total n (λ k. a k *ℚ x k)
  pub fits : ProductsFit n a x

pub summed_none : (a x : Vector) (s : Number) → s ≡ zero_ℚ → Summed 0 a x s
unfolding total
summed_none a x s e = record { is = e; fits = tt }

-- one more product, c times w
pub summed_more : (n : ℕ) (a x : Vector) (s r c w : Number) → Summed n a x s → c ≡ a n → w ≡ x n → r ≡ s +ℚ c *ℚ w → Fits (c *ℚ w) × SumFits s (c *ℚ w) → Summed (n + 1) a x r
unfolding total
summed_more n a x s r c w h ec ew e f =
    subst (λ m. Summed m a x r) (sym (add-one n)) (record {
      is = e ∙ ap₂ ◌+ℚ◌ h.is (ap₂ ◌*ℚ◌ ec ew);
      fits = (h.fits, subst (λ p. Fits p) (ap₂ ◌*ℚ◌ ec ew) f.0, subst (λ p. SumFits (total n (λ k. a k *ℚ x k)) p) (ap₂ ◌*ℚ◌ ec ew) (subst (λ t. SumFits t (c *ℚ w)) h.is f.1));
    })

fits_at : (n : ℕ) (a x : Vector) (j : ℕ) → ProductsFit n a x → j < n → Fits (a j *ℚ x j) × SumFits (total j (λ k. a k *ℚ x k)) (a j *ℚ x j)
fits_at zero a x j h l = absurd (omega arith)
fits_at (suc n) a x j h l = by (cases_eq j n) (fits_at n a x j h.0)
  where
    by : (j ≡ n) ⊎ (j ≢ n) → (j < n → Fits (a j *ℚ x j) × SumFits (total j (λ k. a k *ℚ x k)) (a j *ℚ x j)) → Fits (a j *ℚ x j) × SumFits (total j (λ k. a k *ℚ x k)) (a j *ℚ x j)
    by (inl e) ih = rw e (h.1, h.2)
    by (inr m) ih = ih (omega arith)

-- a product or a sum without room, at j
pub no_room : (n : ℕ) (a x : Vector) (j : ℕ) (s c w : Number) → Summed j a x s → c ≡ a j → w ≡ x j → j < n → (Fits (c *ℚ w) × SumFits s (c *ℚ w) → ⊥) → ProductsFit n a x → ⊥
no_room n a x j s c w h ec ew l none f = let p = fits_at n a x j f l in
    none (subst (λ p. Fits p) (sym (ap₂ ◌*ℚ◌ ec ew)) p.0, subst (λ t. SumFits t (c *ℚ w)) (sym h.is) (subst (λ p. SumFits (total j (λ k. a k *ℚ x k)) p) (sym (ap₂ ◌*ℚ◌ ec ew)) p.1))

-- the term at which a loop stands
pub dense-here : (ts : List Term) (k id : ℕ) (t : Term) → k < length ts → t ≡ get_or ts k t → t.id ≡ id → dense (drop k ts) id ≡ t.value
unfolding put
dense-here ts k id t l e h =
    ap (λ us. dense us id) (drop-cons ts k t l)
    ∙ ap (λ (u : Term). dense (u ∷ drop (suc k) ts) id) (sym e)
    ∙ rw (eq-eqb id t.id (sym h)) refl

pub dense-past : (ts : List Term) (k id : ℕ) (t : Term) → k < length ts → t ≡ get_or ts k t → t.id ≢ id → dense (drop (k + 1) ts) id ≡ dense (drop k ts) id
unfolding put
dense-past ts k id t l e h =
    ap (λ m. dense (drop m ts) id) (add-one k)
    ∙ sym (ap (λ us. dense us id) (drop-cons ts k t l)
    ∙ ap (λ (u : Term). dense (u ∷ drop (suc k) ts) id) (sym e)
    ∙ rw (ne_eqb id t.id (λ g. h (sym g))) refl)

-- what is read of a list, at any default
pub read_at : {X : Type 0} (xs ys : List X) (i : ℕ) (x d : X) → xs ≡ ys → i < length xs → get_or xs i x ≡ get_or ys i d
read_at xs ys i x d e l = get_or_default xs i x d l ∙ ap (λ zs. get_or zs i d) e

pub not_so : false ≡ true → ⊥
not_so e = cc
