-- The place that is found is the least with room, and where none is found there is none.
use Rattle.std.proofs.Common.{◌≡◌, ℕ, zero, suc, ◌+◌, ◌<◌, ◌≤◌, Bool, true, false, cond, Some, None, refl, subst, arith, inl, inr}
use Rattle.std.proofs.lemmas.Bool.{cases_lt}
use Rattle.fractions.specs.Places.{has_room, place_from, place_of}
use Rattle.fractions.proofs.Placing.{place_from-room}

none_below : (m d j k : ℕ) → has_room m d j ≡ false → ((i : ℕ) → j + 1 ≤ i → i < k → has_room m d i ≡ false) → (i : ℕ) → j ≤ i → i < k → has_room m d i ≡ false
none_below m d j k r f i p q = elim (cases_lt j i) [
  | inl lt ↦ f i (omega arith) q
  | inr le ↦ (let e : j ≡ i = omega arith in subst (λ (x : ℕ). has_room m d x ≡ false) e r)
]

found : (left m d j k : ℕ) → place_from left m d j ≡ Some k → (j ≤ k) × (k < j + left) × ((i : ℕ) → j ≤ i → i < k → has_room m d i ≡ false)
unfolding place_from
found zero m d j k e = absurd cc
found (suc left) m d j k e = by (has_room m d j) refl e (found left m d (j + 1) k)
  where
    by : (b : Bool) → has_room m d j ≡ b → cond b (Some j) (place_from left m d (j + 1)) ≡ Some k → (place_from left m d (j + 1) ≡ Some k → (j + 1 ≤ k) × (k < j + 1 + left) × ((i : ℕ) → j + 1 ≤ i → i < k → has_room m d i ≡ false))
        → (j ≤ k) × (k < j + suc left) × ((i : ℕ) → j ≤ i → i < k → has_room m d i ≡ false)
    by true r f g = let h : j ≡ k = cc in (omega arith, omega arith, λ i p q. absurd (omega arith))
    by false r f g = let h = g f in (let a = h.0 in omega arith, let a = h.1 in omega arith, none_below m d j k r h.2)

missing : (left m d j : ℕ) → place_from left m d j ≡ None → (i : ℕ) → j ≤ i → i < j + left → has_room m d i ≡ false
unfolding place_from
missing zero m d j e = λ i p q. absurd (omega arith)
missing (suc left) m d j e = by (has_room m d j) refl e (missing left m d (j + 1))
  where
    by : (b : Bool) → has_room m d j ≡ b → cond b (Some j) (place_from left m d (j + 1)) ≡ None → (place_from left m d (j + 1) ≡ None → (i : ℕ) → j + 1 ≤ i → i < j + 1 + left → has_room m d i ≡ false)
        → (i : ℕ) → j ≤ i → i < j + suc left → has_room m d i ≡ false
    by true r f g = absurd cc
    by false r f g = none_below m d j (j + suc left) r (λ i p q. g f i p (omega arith))

pub least_place : (m d k : ℕ) → place_of m d ≡ Some k → (k ≤ 38) × (has_room m d k ≡ true) × ((i : ℕ) → i < k → has_room m d i ≡ false)
unfolding place_of
least_place m d k e = let h = found 39 m d 0 k e in (let a = h.1 in omega arith, place_from-room 39 m d 0 k e, λ i q. h.2 i (omega arith) q)

pub no_place : (m d : ℕ) → place_of m d ≡ None → (i : ℕ) → i ≤ 38 → has_room m d i ≡ false
unfolding place_of
no_place m d e i q = missing 39 m d 0 e i (omega arith) (omega arith)
