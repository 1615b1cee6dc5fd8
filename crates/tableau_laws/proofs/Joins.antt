-- Functions that are joined from two, and their sums.
use Rattle.std.proofs.Common.{◌≡◌, ℕ, zero, suc, ◌+◌, ◌-◌, ◌<◌, ◌≤◌, pos, refl, ap, ◌∙◌, arith, [], ◌∷◌, ◌⊎◌, inl, inr, subst}
use Rattle.std.proofs.lemmas.Bool.{lt-ltb, le-ltb}
use Rattle.fractions.specs.Ring.{ring, v, num, ◌:+◌}
use Rattle.fractions.specs.Number.{Number, rational, zero_ℚ, ◌+ℚ◌}
use Rattle.fractions.specs.Total.{total}
use Rattle.fractions.proofs.Totals.{total-zero}
use Rattle.tableau_laws.specs.Variables.{joined}

pub joined-left : {A : Type 0} (n : ℕ) (f g : ℕ → A) (k : ℕ) → k < n → joined n f g k ≡ f k
unfolding joined
joined-left n f g k l = rw (lt-ltb k n l)

pub joined-right : {A : Type 0} (n : ℕ) (f g : ℕ → A) (i : ℕ) → joined n f g (n + i) ≡ g i
unfolding joined
joined-right n f g i = let l : n ≤ n + i = omega arith in let e : n + i - n ≡ i = omega arith in rw (le-ltb (n + i) n l, e)

-- what holds of both parts
pub at_or_from : (P : ℕ → Type 0) (n m : ℕ) → ((k : ℕ) → k < n → P k) → ((i : ℕ) → i < m → P (n + i)) → (k : ℕ) → k < n + m → P k
at_or_from P n m front back k l = by (split k)
  where
    split : (k : ℕ) → (k < n) ⊎ (n ≤ k)
    split k = grind arith

    by : (k < n) ⊎ (n ≤ k) → P k
    by (inl h) = front k h
    by (inr h) = let e : n + (k - n) ≡ k = omega arith in subst P e (back (k - n) (omega arith))

pub total_split : (n m : ℕ) (h : ℕ → Number) → total (n + m) h ≡ total n h +ℚ total m (λ i. h (n + i))
unfolding total
total_split n zero h =
    let e : n + zero ≡ n = omega arith in
    ap (λ s. total s h) e ∙ ring rational (total n h ∷ []) (v 0) (v 0 :+ num (pos 0)) refl
total_split n (suc m) h =
    let e : n + suc m ≡ suc (n + m) = omega arith in
    ap (λ s. total s h) e ∙ ap (λ s. s +ℚ h (n + m)) (total_split n m h)
    ∙ ring rational (total n h ∷ total m (λ i. h (n + i)) ∷ h (n + m) ∷ []) ((v 0 :+ v 1) :+ v 2) (v 0 :+ (v 1 :+ v 2)) refl

-- a sum whose later terms are 0
pub total_front : (n m : ℕ) (h : ℕ → Number) → ((i : ℕ) → i < m → h (n + i) ≡ zero_ℚ) → total (n + m) h ≡ total n h
total_front n m h z = total_split n m h ∙ ap (λ s. total n h +ℚ s) (total-zero m (λ i. h (n + i)) z) ∙ ring rational (total n h ∷ []) (v 0 :+ num (pos 0)) (v 0) refl
