-- Numbers that are put at the ids of terms, one after another.
use Rattle.std.proofs.Common.{◌≡◌, ℕ, suc, ◌<◌, ◌≤◌, List, [], ◌∷◌, length, pos, sym, refl, ap, ap₂, ◌∙◌, subst, arith}
use Rattle.fractions.specs.Ring.{ring, v, num, ◌:+◌}
use Rattle.fractions.specs.Number.{Number, rational, zero_ℚ, ◌+ℚ◌}
use Rattle.fractions.specs.Total.{put}
use Rattle.fractions.proofs.Totals.{put-same, put-other, at_or_off}
use Rattle.lp_model.specs.declared.terms.Term.{Term}
use Rattle.lp_model.specs.Vectors.{Vector}
use Rattle.lp_model.specs.Sparse.{Ascends, dense}
use Rattle.lp_theory.proofs.SparseSums.{dense-below}

-- x has f of the number at each term before the rest, and else 0
pub record Placed (n : ℕ) (f : Number → Number) (ts rest : List Term) (x : Vector) : Type 0 where
  pub next : ℕ
  pub ascends : Ascends next n rest
  pub later : (k : ℕ) → next ≤ k → x k ≡ zero_ℚ
  pub value : (k : ℕ) → x k +ℚ f (dense rest k) ≡ f (dense ts k)

pub placed_none : (n : ℕ) (f : Number → Number) (ts : List Term) (x : Vector) → Ascends 0 n ts → x ≡ (λ k. zero_ℚ) → Placed n f ts ts x
placed_none n f ts x a e = subst (λ (y : Vector). Placed n f ts ts y) (sym e) (record {
  next = 0;
  ascends = a;
  later = λ k l. refl;
  value = λ k. ring rational (f (dense ts k) ∷ []) (num (pos 0) :+ v 0) (v 0) refl;
})

pub placed_id : (n : ℕ) (f : Number → Number) (ts rest es : List Term) (e : Term) (x : Vector) → rest ≡ e ∷ es → Placed n f ts rest x → e.id < n
placed_id n f ts rest es e x is h = (subst (λ us. Placed n f ts us x) is h).ascends.1

pub placed_more : (n : ℕ) (f : Number → Number) (ts rest es : List Term) (e : Term) (x y : Vector) → f zero_ℚ ≡ zero_ℚ → rest ≡ e ∷ es → y ≡ put x e.id (f e.value) → Placed n f ts rest x → Placed n f ts es y
placed_more n f ts rest es e x y z is eq h = by (subst (λ us. Placed n f ts us x) is h)
  where
    by : Placed n f ts (e ∷ es) x → Placed n f ts es y
    by g = subst (λ (u : Vector). Placed n f ts es u) (sym eq) (record {
      next = suc e.id;
      ascends = g.ascends.3;
      later = λ k l. put-other x e.id (f e.value) k (omega (arith, l)) ∙ g.later k (omega (arith, l, g.ascends.0));
      value = λ k. at_or_off (λ k. put x e.id (f e.value) k +ℚ f (dense es k) ≡ x k +ℚ f (dense (e ∷ es) k)) e.id
          (ap₂ (λ a b. a +ℚ f b) (put-same x e.id (f e.value)) (dense-below es (suc e.id) n e.id g.ascends.3 (omega arith))
          ∙ ap (λ a. f e.value +ℚ a) z ∙ ring rational (f e.value ∷ []) (v 0 :+ num (pos 0)) (num (pos 0) :+ v 0) refl
          ∙ sym (ap₂ (λ a b. a +ℚ f b) (g.later e.id g.ascends.0) (put-same (dense es) e.id e.value)))
          (λ k o. ap₂ (λ a b. a +ℚ f b) (put-other x e.id (f e.value) k o) (sym (put-other (dense es) e.id e.value k o)))
          k ∙ g.value k;
    })

pub placed_all : (n : ℕ) (f : Number → Number) (ts rest : List Term) (x : Vector) → f zero_ℚ ≡ zero_ℚ → length rest ≡ 0 → Placed n f ts rest x → x ≡ (λ k. f (dense ts k))
placed_all n f ts [] x z none g = λ i k. (ring rational (x k ∷ []) (v 0) (v 0 :+ num (pos 0)) refl ∙ ap (λ a. x k +ℚ a) (sym z) ∙ g.value k) i
placed_all n f ts (e ∷ es) x z none g = absurd (omega (arith, none))
