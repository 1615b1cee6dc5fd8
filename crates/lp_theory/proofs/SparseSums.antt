-- A sum over the entries of a row is the sum over all columns.
use Rattle.std.proofs.Common.{◌≡◌, ◌≢◌, ℕ, suc, ◌<◌, List, [], ◌∷◌, pos, sym, refl, ap, ◌∙◌, arith}
use Rattle.fractions.specs.Ring.{ring, v, num, ◌:+◌, ◌:-◌, ◌:*◌}
use Rattle.fractions.specs.Number.{Number, rational, ◌+ℚ◌, ◌-ℚ◌, ◌*ℚ◌, zero_ℚ}
use Rattle.fractions.specs.Total.{total}
use Rattle.lp_model.specs.declared.terms.Term.{Term}
use Rattle.lp_model.specs.Sparse.{Ascends, dense, sparse_total}
use Rattle.fractions.proofs.Totals.{put-other, total-zero, total-put_factor}

pub dense-below : (es : List Term) (m n k : ℕ) → Ascends m n es → k < m → dense es k ≡ zero_ℚ
dense-below [] m n k a l = refl
dense-below (e ∷ es) m n k a l = let ne : k ≢ e.id = omega (arith, a.0) in put-other (dense es) e.id e.value k ne ∙ dense-below es (suc e.id) n k a.3 (omega (arith, a.0))

pub sparse-dense : (es : List Term) (m n : ℕ) (x : ℕ → Number) → Ascends m n es → sparse_total es x ≡ total n (λ k. dense es k *ℚ x k)
sparse-dense [] m n x a = sym (total-zero n (λ k. zero_ℚ *ℚ x k) (λ k l. ring rational (x k ∷ []) (num (pos 0) :* v 0) (num (pos 0)) refl))
sparse-dense (e ∷ es) m n x a =
    ap (λ s. e.value *ℚ x e.id +ℚ s) (sparse-dense es (suc e.id) n x a.3)
    ∙ ring rational (e.value ∷ x e.id ∷ total n (λ k. dense es k *ℚ x k) ∷ []) (v 0 :* v 1 :+ v 2) (v 2 :+ (v 0 :- num (pos 0)) :* v 1) refl
    ∙ ap (λ c. total n (λ k. dense es k *ℚ x k) +ℚ (e.value -ℚ c) *ℚ x e.id) (sym (dense-below es (suc e.id) n e.id a.3 (omega arith)))
    ∙ sym (total-put_factor n (dense es) x e.id e.value a.1)
