-- What weights of ends are worth, as a loop sums it.
use Rattle.std.proofs.Common.{◌≡◌, ◌≢◌, ◌⊎◌, inl, inr, ℕ, zero, suc, ◌+◌, ◌<◌, [], ◌∷◌, Option, None, pos, refl, sym, ap₂, ◌∙◌, subst, add-one, arith}
use Rattle.std.proofs.lemmas.Bool.{cases_eq}
use Rattle.fractions.specs.Ring.{ring, v, num, ◌:+◌}
use Rattle.fractions.specs.Number.{Number, rational, zero_ℚ, ◌+ℚ◌}
use Rattle.fractions.specs.Total.{total}
use Rattle.lp_model.specs.Vectors.{Vector}
use Rattle.lp_rays.specs.Ray.{worth}
use Rattle.ray_check.specs.Room.{WorthFits, WorthsFit, worth_of}

-- an infinite end gives nothing
pub nothing : (r w : Number) (e : Option Number) → None ≡ e → r ≡ r +ℚ worth e w
nothing r w e is = subst (λ o. r ≡ r +ℚ worth o w) is (ring rational (r ∷ []) (v 0) (v 0 :+ num (pos 0)) refl)

-- the sum of the first n ends
pub record Worthing (n : ℕ) (e : ℕ → Option Number) (w : Vector) (r : Number) : Type 0 where
  pub value : r ≡ worth_of n e w
  pub fits : WorthsFit n e w

pub worthing_none : (e : ℕ → Option Number) (w : Vector) (r : Number) → r ≡ zero_ℚ → Worthing 0 e w r
unfolding total
worthing_none e w r is = record { value = is; fits = tt }

-- one more end
pub worthing_more : (n : ℕ) (e : ℕ → Option Number) (w : Vector) (r q : Number) (end : Option Number) (x : Number) → end ≡ e n → x ≡ w n → q ≡ r +ℚ worth end x → WorthFits r end x → Worthing n e w r → Worthing (n + 1) e w q
unfolding total
worthing_more n e w r q end x ie ix is f h =
    subst (λ m. Worthing m e w q) (sym (add-one n)) (record {
      value = is ∙ ap₂ ◌+ℚ◌ h.value (ap₂ worth ie ix);
      fits = (h.fits, subst (λ t. WorthFits t (e n) (w n)) h.value (subst (λ o. WorthFits r o (w n)) ie (subst (λ y. WorthFits r end y) ix f)));
    })

fits_at : (m : ℕ) (e : ℕ → Option Number) (w : Vector) (n : ℕ) → WorthsFit m e w → n < m → WorthFits (worth_of n e w) (e n) (w n)
fits_at zero e w n h l = absurd (omega arith)
fits_at (suc m) e w n h l = by (cases_eq n m) (fits_at m e w n h.0)
  where
    by : (n ≡ m) ⊎ (n ≢ m) → (n < m → WorthFits (worth_of n e w) (e n) (w n)) → WorthFits (worth_of n e w) (e n) (w n)
    by (inl same) ih = rw same h.1
    by (inr apart) ih = ih (omega arith)

-- an end without room
pub worthing_stops : (m n : ℕ) (e : ℕ → Option Number) (w : Vector) (r : Number) (end : Option Number) (x : Number) → end ≡ e n → x ≡ w n → n < m → (WorthFits r end x → ⊥) → Worthing n e w r → WorthsFit m e w → ⊥
worthing_stops m n e w r end x ie ix l none h all =
    none (subst (λ y. WorthFits r end y) (sym ix) (subst (λ o. WorthFits r o (w n)) (sym ie) (subst (λ t. WorthFits t (e n) (w n)) (sym h.value) (fits_at m e w n all l))))
