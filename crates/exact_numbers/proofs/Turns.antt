-- Numbers that are negated, one after another.
use Rattle.std.proofs.Common.{◌≡◌, ◌≢◌, ◌⊎◌, inl, inr, ℕ, ◌+◌, ◌<◌, ◌≤◌, List, [], length, pos, refl, sym, ap, ◌∙◌, arith, subst}
use Rattle.std.proofs.lemmas.Bool.{cases_lt}
use Rattle.std.proofs.lemmas.List.{get_or_past}
use Rattle.fractions.specs.Ring.{ring, num, inv}
use Rattle.fractions.specs.Number.{Number, rational, zero_ℚ, neg_ℚ}
use Rattle.fractions.specs.Total.{put}
use Rattle.fractions.proofs.Totals.{put-same, put-other, at_or_off}
use Rattle.lp_model.specs.Vectors.{Vector, vector_of}

-- the first n numbers are negated
pub record Negating (n : ℕ) (old now : Vector) : Type 0 where
  pub done : (k : ℕ) → k < n → now k ≡ neg_ℚ (old k)
  pub left : (k : ℕ) → n ≤ k → now k ≡ old k

pub negating_none : (old : Vector) → Negating 0 old old
negating_none old = record { done = λ k l. absurd (omega (arith, l)); left = λ k l. refl }

-- one number more
pub negating_more : (n : ℕ) (r : Number) (old now new : Vector) → r ≡ neg_ℚ (now n) → new ≡ put now n r → Negating n old now → Negating (n + 1) old new
negating_more n r old now new er en h = subst (λ w. Negating (n + 1) old w) (sym en) (record {
  done = at_or_off (λ k. k < n + 1 → put now n r k ≡ neg_ℚ (old k)) n
      (λ l. put-same now n r ∙ er ∙ ap neg_ℚ (h.left n (omega arith)))
      (λ k apart l. put-other now n r k apart ∙ h.done k (omega (arith, l, apart)));
  left = λ k l. let apart : k ≢ n = omega (arith, l) in put-other now n r k apart ∙ h.left k (omega (arith, l));
})

neg_zero : zero_ℚ ≡ neg_ℚ zero_ℚ
neg_zero = ring rational [] (num (pos 0)) (inv (num (pos 0))) refl

-- all are, and past the last there are 0s
pub negating_all : (n : ℕ) (olds : List Number) (now : Vector) → length olds ≤ n → Negating n (vector_of olds) now → now ≡ (λ k. neg_ℚ (vector_of olds k))
negating_all n olds now long h = λ i k. each k i
  where
    each : (k : ℕ) → now k ≡ neg_ℚ (vector_of olds k)
    each k = by (cases_lt k n)
      where
        past : n ≤ k → vector_of olds k ≡ zero_ℚ
        past l = get_or_past olds k zero_ℚ (omega (arith, l, long))

        by : (k < n) ⊎ (n ≤ k) → now k ≡ neg_ℚ (vector_of olds k)
        by (inl l) = h.done k l
        by (inr l) = h.left k l ∙ past l ∙ neg_zero ∙ ap neg_ℚ (sym (past l))
