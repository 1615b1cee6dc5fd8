-- Lists of ids that ascend, and sums over them.
use Rattle.std.proofs.Common.{◌≡◌, ◌≢◌, ℕ, zero, suc, ◌<◌, ◌≤◌, List, [], ◌∷◌, length, slice_index, pos, sym, refl, ap, ap₂, ◌∙◌, arith, ◌⊎◌, inl, inr, subst}
use Rattle.std.proofs.lemmas.Bool.{cases_eq}
use Rattle.fractions.specs.Ring.{ring, v, num, ◌:+◌, ◌:-◌}
use Rattle.fractions.specs.Number.{rational, zero_ℚ, ◌+ℚ◌, ◌-ℚ◌}
use Rattle.fractions.specs.Total.{total}
use Rattle.fractions.proofs.Totals.{put-same, put-other, total_same, total-zero, total-put}
use Rattle.lp_model.specs.Vectors.{Vector}
use Rattle.lp_passages.specs.Renumbering.{IdsFrom, IsLeftOut, gathered, spread}

pub ids-at : (ids : List ℕ) (m n a : ℕ) → IdsFrom m n ids → a < length ids → (m ≤ slice_index ids a) × (slice_index ids a < n)
ids-at [] m n a h l = absurd (omega arith)
ids-at (i ∷ ids) m n zero h l = (h.0, h.1)
ids-at (i ∷ ids) m n (suc a) h l = let p = ids-at ids (suc i) n a h.2 (omega arith) in (omega (arith, p.0, h.0), p.1)

-- an id is in the list or left out of it
pub in_or_out : (ids : List ℕ) (k : ℕ) → ((a : ℕ) × (a < length ids) × (slice_index ids a ≡ k)) ⊎ IsLeftOut k ids
in_or_out [] k = inr (λ a l e. absurd (omega (arith, l)))
in_or_out (i ∷ ids) k = by (cases_eq i k) (in_or_out ids k)
  where
    by : (i ≡ k) ⊎ (i ≢ k) → ((a : ℕ) × (a < length ids) × (slice_index ids a ≡ k)) ⊎ IsLeftOut k ids → ((a : ℕ) × (a < length (i ∷ ids)) × (slice_index (i ∷ ids) a ≡ k)) ⊎ IsLeftOut k (i ∷ ids)
    by (inl e) r = inl (zero, omega arith, e)
    by (inr n) (inl p) = inl (suc p.0, omega (arith, p.1), p.2)
    by (inr n) (inr f) = inr (out n f)
      where
        out : i ≢ k → IsLeftOut k ids → IsLeftOut k (i ∷ ids)
        out n f zero l = n
        out n f (suc a) l = f a (omega arith)

-- what holds at the ids and at what they leave out holds of each id
pub each_id : (P : ℕ → Type 0) (ids : List ℕ) (n : ℕ) → ((a : ℕ) → a < length ids → P (slice_index ids a)) → ((k : ℕ) → k < n → IsLeftOut k ids → P k) → (k : ℕ) → k < n → P k
each_id P ids n here off k l = elim (in_or_out ids k) [ inl p ↦ subst P p.2 (here p.0 p.1) | inr f ↦ off k l f ]

pub spread-at : (ids : List ℕ) (m n a : ℕ) (x : Vector) → IdsFrom m n ids → a < length ids → spread ids x (slice_index ids a) ≡ x a
spread-at [] m n a x h l = absurd (omega arith)
spread-at (i ∷ ids) m n zero x h l = put-same (spread ids (λ a. x (suc a))) i (x zero)
spread-at (i ∷ ids) m n (suc a) x h l =
    let p = ids-at ids (suc i) n a h.2 (omega arith) in
    let ne : slice_index ids a ≢ i = omega (arith, p.0) in
    put-other (spread ids (λ a. x (suc a))) i (x zero) (slice_index ids a) ne ∙ spread-at ids (suc i) n a (λ a. x (suc a)) h.2 (omega arith)

pub spread-off : (ids : List ℕ) (k : ℕ) (x : Vector) → IsLeftOut k ids → spread ids x k ≡ zero_ℚ
spread-off [] k x f = refl
spread-off (i ∷ ids) k x f =
    put-other (spread ids (λ a. x (suc a))) i (x zero) k (λ e. f zero (omega arith) (sym e))
    ∙ spread-off ids k (λ a. x (suc a)) (λ a l. f (suc a) (omega (arith, l)))

-- the first term apart
total-front : (n : ℕ) (f : Vector) → total (suc n) f ≡ f zero +ℚ total n (λ k. f (suc k))
unfolding total
total-front zero f = ring rational (f zero ∷ []) (num (pos 0) :+ v 0) (v 0 :+ num (pos 0)) refl
total-front (suc n) f = ap (λ s. s +ℚ f (suc n)) (total-front n f) ∙ ring rational (f zero ∷ total n (λ k. f (suc k)) ∷ f (suc n) ∷ []) (v 0 :+ v 1 :+ v 2) (v 0 :+ (v 1 :+ v 2)) refl

total-none : (f : Vector) → total zero f ≡ zero_ℚ
unfolding total
total-none f = refl

total-spread : (ids : List ℕ) (m n : ℕ) (x : Vector) → IdsFrom m n ids → total n (spread ids x) ≡ total (length ids) x
total-spread [] m n x h = total-zero n (λ k. zero_ℚ) (λ k l. refl) ∙ sym (total-none x)
total-spread (i ∷ ids) m n x h =
    total-put n (spread ids (λ a. x (suc a))) i (x zero) h.1
    ∙ ap₂ (λ s t. s -ℚ t +ℚ x zero) (total-spread ids (suc i) n (λ a. x (suc a)) h.2) (spread-off ids i (λ a. x (suc a)) above)
    ∙ ring rational (total (length ids) (λ a. x (suc a)) ∷ x zero ∷ []) (v 0 :- num (pos 0) :+ v 1) (v 1 :+ v 0) refl
    ∙ sym (total-front (length ids) x)
  where
    above : IsLeftOut i ids
    above a l e = let p = ids-at ids (suc i) n a h.2 l in absurd (omega (arith, p.0, e))

-- a sum whose terms at the ids left out are 0
pub total-ids : (ids : List ℕ) (n : ℕ) (f : Vector) → IdsFrom zero n ids → ((k : ℕ) → k < n → IsLeftOut k ids → f k ≡ zero_ℚ) → total n f ≡ total (length ids) (λ a. f (slice_index ids a))
total-ids ids n f h z =
    total_same n f (spread ids (gathered ids f))
    (each_id (λ k. f k ≡ spread ids (gathered ids f) k) ids n
    (λ a l. sym (spread-at ids zero n a (gathered ids f) h l))
    (λ k l o. z k l o ∙ sym (spread-off ids k (gathered ids f) o)))
    ∙ total-spread ids zero n (gathered ids f) h
